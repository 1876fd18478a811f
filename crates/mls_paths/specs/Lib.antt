pub mod Found
pub mod Hands
pub mod Numbering
pub mod Searching
pub mod Ways
