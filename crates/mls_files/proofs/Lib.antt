mod Followed
mod Compared
mod Closing
mod Stopped
mod Ending
mod Begun
mod Judged
