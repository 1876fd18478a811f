mod Cells
mod CellTriples
mod Held
mod IndexedTable
mod Indexes
mod Laid
pub mod Laws
mod ModeBits
pub mod Once
mod Ordered
mod Pairs
mod Rows
mod TakenRuns
mod Shifts
mod Within
