mod Cells
mod TripleLists
mod Faultless
pub mod Laws
mod Opening
mod Secured
mod Sourced
