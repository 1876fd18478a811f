pub mod Cuts
mod Gathered
pub mod Gathering
pub mod Gets
mod Joins
pub mod Likes
pub mod LineReads
mod Lines
pub mod Modes
mod OneText
pub mod Rebuilt
mod Rows
mod RowsOf
mod RowsSay
pub mod RowsSeen
pub mod SchemeNames
pub mod SchemeTexts
mod StartNames
pub mod States
pub mod SubjectTables
mod TextRead
pub mod Within
