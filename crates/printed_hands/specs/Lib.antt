-- The text of hands and of a report on them, by names and in columns.

-- The text of hands.
pub mod Check
pub mod Ending
pub mod Steps
pub mod Replay
-- Names in the order in which they are first seen, and the index that finds them.
pub mod Names
pub mod Indexed
-- Texts in columns.
pub mod Columns
-- The text of a report on hands, and how it is gathered hand by hand.
pub mod Report
pub mod Games
pub mod Tallies
pub mod SoFar
