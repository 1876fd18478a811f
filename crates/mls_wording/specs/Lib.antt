pub mod ReadBack
pub mod RequestText
pub mod Where
pub mod Wording
