mod Counting
mod Cuts
mod Granted
mod InTurn
mod Listed
mod Shares
