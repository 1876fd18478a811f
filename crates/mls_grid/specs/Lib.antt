pub mod Grids
pub mod Prospects
