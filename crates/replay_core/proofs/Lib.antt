-- How betting and cards fit together, the events of a script, and the rows of its end.
pub mod Joined
pub mod Kept
pub mod Moves
pub mod SoFar
pub mod LegalParts
pub mod Counted
pub mod SameShowdown
pub mod ShownHands
pub mod FinishBound
pub mod EndTrace
pub mod Ended
pub mod EndChips
pub mod TraceAtEnd
pub mod OneFault
pub mod NoUpCards
