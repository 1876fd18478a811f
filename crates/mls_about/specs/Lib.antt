pub mod Naming
pub mod Permissions
pub mod Counting
pub mod Entries
pub mod Gets
pub mod Subjects
pub mod Objects
pub mod About
