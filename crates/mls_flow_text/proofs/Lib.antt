mod Flows
mod Seen
mod Telling
mod Texts
mod Ways
