-- What the command line parser finds in the words of a command, and which seats they name.
mod Steps
mod Finds
mod Walking
mod Parses
mod Asked
mod SeatNumbers
mod Taken
