pub mod Counts
mod Few
pub mod Placed
pub mod Said
pub mod StandardRows
pub mod Tied
