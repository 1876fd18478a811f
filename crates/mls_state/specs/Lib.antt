pub mod Audit
pub mod Changes
pub mod First
pub mod Properties
pub mod State
pub mod StateView
pub mod Tables
