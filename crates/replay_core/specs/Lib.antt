-- Which pasts the betting and the cards of a hand both describe, what a step returns, and what a
-- replay answers.
pub mod Together
pub mod AddedMoves
pub mod Advances
pub mod Events
pub mod LegalPart
pub mod EndRows
pub mod Showdowns
pub mod AtEnd
pub mod Replayed
pub mod Faults
pub mod FaultText
