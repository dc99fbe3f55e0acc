-- Rows are equal if they say the same, shares are unique, and so a past has at most one whole
-- trace; no chips are made or lost if shares and rakes are the pots, and only unbeaten seats win
-- contested pots.
pub mod Readings
pub mod SameRows
pub mod OneSharing
pub mod OneTrace
pub mod SameWords
pub mod ShareBounds
pub mod TraceChips
pub mod TraceStacks
pub mod TraceWinners
pub mod ConservedTraces
pub mod ShownAtEnd
pub mod SameShares
