pub mod Carries
pub mod Scripts
