pub mod Access
pub mod Asking
pub mod Feed
pub mod Halves
pub mod Lines
pub mod Script
pub mod Serve
pub mod Fed
