pub mod Able
pub mod Authority
pub mod Changes
pub mod Gets
pub mod Others
pub mod Remedies
pub mod Steps
