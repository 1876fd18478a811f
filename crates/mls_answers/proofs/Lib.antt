mod Chosen
mod Describing
mod Explaining
mod Histories
mod SaidOfStarts
mod Seen
mod Starts
mod Tight
