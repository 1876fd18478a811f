mod Cuts
mod KeptStates
mod Taken
mod Whole
