pub mod Barriers
pub mod Reasons
pub mod Rows
pub mod Whether
