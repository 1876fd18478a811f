pub mod Asked
pub mod Endings
pub mod Flows
pub mod Naming
pub mod Routes
pub mod Steps
pub mod Ways
