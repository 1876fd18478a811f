mod Changed
mod Freeing
mod Givings
mod Granting
mod Steps
