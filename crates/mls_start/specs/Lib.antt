pub mod TripleLists
pub mod Growing
pub mod RowAccesses
pub mod Rows
pub mod StartFaults
pub mod Sources
