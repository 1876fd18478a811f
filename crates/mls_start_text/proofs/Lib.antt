pub mod Below
pub mod Laws
pub mod Placed
pub mod Rows
pub mod Trees
