-- The hands that are made from a number: draws, the deck, the setup, each next event and the
-- records; and that every made hand is legal and ends.
pub mod Draws
pub mod HandSource
pub mod Setups
pub mod Coming
pub mod Seen
pub mod Made
pub mod Progress
pub mod MadeTo
pub mod Sound
pub mod Load
pub mod Loaded
