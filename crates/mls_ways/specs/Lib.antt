pub mod Brings
pub mod Lean
pub mod Releases
pub mod Ways
