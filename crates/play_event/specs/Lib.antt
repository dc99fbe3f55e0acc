-- What is said of a hand, how it is packed, the rules of play, traces and canonical scripts.

-- What a notation says of a hand, how it is packed, and the rules of play.
pub mod Code
pub mod Games
pub mod Streets
pub mod Said
pub mod PackedForm
pub mod PackedReading
pub mod EventNumbers
pub mod PackedScript
pub mod PackedOnce
pub mod Past
pub mod Chips
pub mod Seats
pub mod CurrentBet
pub mod Dealing
pub mod Showing
pub mod Due
pub mod Openers
pub mod PlayerToAct
pub mod Amounts
pub mod Targets
pub mod Raising
pub mod TurnTargets
pub mod Places
pub mod Held
pub mod NameMatching
pub mod Table
pub mod Taken
pub mod CardReasons
pub mod MoveReasons
pub mod Reasons
pub mod ReasonText
pub mod Scripts
pub mod ValidSetup
pub mod Trace
pub mod SlotRows
pub mod SeatSlots
pub mod Played
pub mod Stakes
pub mod HistoryRules
pub mod Rows
pub mod Laws
pub mod Ranges
-- What a trace keeps of a hand except its shares, its canonical script, and scripts played to their
-- end.
pub mod TraceCore
pub mod CanonScript
pub mod PlayedScript
pub mod Tidy
