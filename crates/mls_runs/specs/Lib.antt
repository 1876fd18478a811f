pub mod Run
pub mod Threads
pub mod RunFeeds
pub mod RunFaults
