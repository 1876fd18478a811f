mod Never
mod Rows
mod Seen
mod Telling
