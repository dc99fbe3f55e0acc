-- Tests of parts are exact, what is compared of a hand fixes its trace, plays without a difference
-- are the same hand, and no list of a hand is the beginning of the same list of another.
pub mod ExactTests
pub mod FirstNumbers
pub mod SameSetups
pub mod SameCores
pub mod SameHands
pub mod NoFurtherMoves
pub mod NoFurtherPlaces
pub mod Labels
pub mod NotesFound
pub mod FirstOf
pub mod FirstDiffering
pub mod Beginnings
