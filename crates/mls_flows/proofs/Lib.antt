mod Arrives
mod Before
mod Getting
mod Handed
mod Handing
pub mod Laws
mod Made
mod NeverArrives
mod Once
mod Passing
mod Spreading
