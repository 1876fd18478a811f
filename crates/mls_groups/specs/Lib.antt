pub mod Groups
pub mod Weights
