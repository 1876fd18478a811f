pub mod Documents
pub mod Drafts
pub mod Escaping
pub mod Pages
pub mod Reading
pub mod Trees
pub mod Words
