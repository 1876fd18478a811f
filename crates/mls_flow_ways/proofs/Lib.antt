mod Begun
mod Carried
mod Freed
mod Growing
mod Once
