pub mod Building
pub mod Loading
pub mod Placing
pub mod Says
pub mod Standard
pub mod Ties
