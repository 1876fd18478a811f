pub mod Firsts
pub mod Found
pub mod Lists
pub mod Pairs
pub mod PowersAlike
pub mod Ranges
pub mod Reach
pub mod Within
