mod BothWays
mod Changing
mod Coming
mod Granted
mod Journals
mod KnownAnswers
pub mod Laws
mod NeverHeld
mod Scripts
mod Shrinking
mod Steps
mod Walking
mod Within
