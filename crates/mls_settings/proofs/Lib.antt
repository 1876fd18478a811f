mod Refused
mod Set
mod Spelled
