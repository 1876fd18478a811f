pub mod Completed
pub mod Placed
pub mod Short
