pub mod Files
pub mod Histories
pub mod Opened
pub mod Refusals
pub mod Seeing
pub mod Sources
pub mod Taking
