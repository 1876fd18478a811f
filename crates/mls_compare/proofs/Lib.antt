mod Followed
mod Labels
mod Mapped
mod Refusals
mod RefusalsSet
mod Tables
