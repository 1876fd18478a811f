mod Flags
mod Lacking
pub mod Laws
mod Pairs
mod Seen
mod Telling
mod Tested
