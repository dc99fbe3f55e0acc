-- The cards of a hand: where they are, and what is read from that.
pub mod Plain
pub mod Placed
pub mod Covered
pub mod Marks
pub mod Searches
pub mod Drawn
pub mod Room
pub mod Counted
pub mod DueStreet
pub mod CardEvents
pub mod Refusals
pub mod Dealt
pub mod Discarded
pub mod Shown
pub mod Folded
pub mod Ordered
