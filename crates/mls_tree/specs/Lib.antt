pub mod Tree
pub mod Kept
pub mod Words
