-- How the parts of a canonical script take place, and how the cards that they leave relate to those
-- of the script.
pub mod CardEvents
pub mod MatchedNames
pub mod Mirrors
pub mod Runs
pub mod TraceOrder
pub mod BoardRun
pub mod CanonicalMove
pub mod CleanDiscard
pub mod DealsRun
pub mod DiscardsRun
pub mod FreeCards
pub mod StreetOrder
pub mod CleanShow
pub mod DiscardAgain
pub mod FreeGroups
pub mod MovesRun
pub mod DealtGroups
pub mod DrawRun
pub mod SamePlaces
pub mod StreetMoves
pub mod TraceOrderCounts
pub mod DiscardTests
pub mod StreetCounts
pub mod StreetLists
pub mod TracedSlots
-- The canonical script, street by street, its showdown, and the trace that it leaves.
pub mod HeldSame
pub mod ShowdownRun
pub mod Street
pub mod StreetDiscards
pub mod StreetDeals
pub mod StreetPlay
pub mod StreetUnplayed
pub mod AllStreets
pub mod LastPast
pub mod SameCore
pub mod TidyTraces
pub mod Confluent
pub mod OneTrace
pub mod SuitedMoves
pub mod MoveCounts
-- The moves, cards and counts of a canonical script, what a hand has of each street, and the script
-- in other words.
pub mod PlayerToActSeats
pub mod MoveRanges
pub mod GameSizes
pub mod CardRanges
pub mod EventRanges
pub mod OtherCounts
pub mod SameMoves
pub mod SuitedRules
pub mod StreetsPlayed
pub mod RaiseUp
pub mod OtherWords
pub mod SameEvents
