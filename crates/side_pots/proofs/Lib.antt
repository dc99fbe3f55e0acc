-- Lemmas on the levels that are still to be cut.
pub mod Cutting
pub mod LevelLaw
