pub mod Demands
pub mod Grounds
pub mod Prospects
pub mod Remedy
pub mod Trusting
pub mod Unknowns
pub mod Ways
