pub mod Kinds
pub mod Requests
pub mod StateRows
