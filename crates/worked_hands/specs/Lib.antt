-- Hands that are written out: their words, setups, scripts, outcomes, traces, notes and
-- differences.

-- Hands that are written out: the words for them, their setups and scripts, and what the rules give
-- for them.
pub mod Words
pub mod Outcomes
pub mod Setups
pub mod Deals
pub mod BetScripts
pub mod CardScripts
pub mod ShowScripts
-- Hands whose traces and canonical scripts are computed, traces as numbers, notes, stated facts and
-- plays.
pub mod TraceNumbers
pub mod PlaySetups
pub mod Scripts
pub mod PlayOutcomes
pub mod TraceRows
pub mod Traces
pub mod BoardTraces
pub mod StreetTraces
pub mod WrongTraces
pub mod StatedFacts
pub mod WrittenNotes
pub mod Plays
-- Setups and traces that differ from those of the worked plays.
pub mod OtherTraces
