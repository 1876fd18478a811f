mod Cells
mod Covering
mod Freed
mod Joins
mod Lists
mod LowerLevels
mod Meets
mod Untrusted
