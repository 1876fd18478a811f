mod Cuts
mod Kept
mod Listing
mod PartsLaw
pub mod Laws
mod Telling
mod Words
mod Whether
