pub mod Drafts
pub mod Joined
pub mod Laws
pub mod Parts
pub mod Wholes
