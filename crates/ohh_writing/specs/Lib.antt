-- How plays are written as Open Hand History: the facts that it can write, and the one tree and
-- line for each play.
pub mod Actions
pub mod Rounds
pub mod Games
pub mod Seating
pub mod Moment
pub mod Spelled
pub mod Tree
pub mod Lines
