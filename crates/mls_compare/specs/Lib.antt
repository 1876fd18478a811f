pub mod AsSet
pub mod Asked
pub mod Carriers
pub mod Carrying
pub mod Comparing
pub mod Entries
pub mod Following
pub mod Maps
