-- Cards that are dealt in the order of the deck.
pub mod Dealt
