pub mod Words
pub mod ModeWords
pub mod ActionWords
pub mod ReasonWords
pub mod ReplyWords
