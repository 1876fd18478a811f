mod Growing
mod LoneRows
mod NameLists
mod Told
