mod Categories
mod Extending
mod LabelNumbers
pub mod Laws
mod NamePlaces
mod RequestLines
mod Tokens
