mod Breadth
mod Exact
mod Hands
pub mod Laws
mod Leading
mod Lists
mod Tables
