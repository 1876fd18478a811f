mod Digits
mod EntryTimes
