-- The hands in bytes in Open Hand History, with their pots and notes.

-- The parts of a hand in Open Hand History other than its play.
pub mod Won
pub mod PotSums
pub mod Pots
pub mod Moments
pub mod MomentRanges
pub mod Notes
pub mod LabelRanges
-- The hands in bytes in Open Hand History.
pub mod Blocks
pub mod Begins
pub mod Sizes
pub mod Hand
pub mod Reading
pub mod FaultText
