pub mod Arriving
pub mod Reaching
pub mod Ways
