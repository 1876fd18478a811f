pub mod Laws
mod Leading
mod Lean
mod Making
mod Freeing
