pub mod AskedJournals
pub mod JournalTexts
pub mod Laws
pub mod FoundEntries
pub mod QuestionReplayings
pub mod Replayings
pub mod StateReplays
pub mod Starts
