pub mod NumberLemmas
pub mod ReplyTexts
pub mod WordLengths
pub mod WordTables
