pub mod Actors
pub mod Brought
pub mod Foreseeing
pub mod Outsets
pub mod Rows
pub mod Words
