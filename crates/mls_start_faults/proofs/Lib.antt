pub mod Cycles
pub mod Each
pub mod NameLists
pub mod Known
pub mod Looked
pub mod Trees
mod Repeated
