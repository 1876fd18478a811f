mod AfterKeeps
mod LabelsSame
pub mod Laws
mod LevelTests
mod Listed
mod Security
mod SecurityGive
mod SecurityLevels
mod SecurityTree
mod TreeKept
mod WholeTables
