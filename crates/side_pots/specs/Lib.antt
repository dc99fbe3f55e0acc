-- The levels that are still to be cut, and stakes.
pub mod Levels
pub mod Stakes
