pub mod Accesses
pub mod HalfSteps
pub mod Kept
pub mod LineLemmas
pub mod Pieces
pub mod Progress
pub mod Runs
pub mod Texts
mod Fed
pub mod Laws
mod Alone
