mod AllTriples
mod Changes
mod Copies
mod EachTriple
mod Growing
mod Holders
mod Kept
pub mod Laws
mod NumberedSet
mod Padding
mod Removing
mod Replacing
mod Tables
mod TreeKept
mod Unlisted
