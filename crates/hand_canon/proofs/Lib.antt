-- Laws of records and notes, and the lemmas by which a canonical script is written.

-- Laws of first refusals, the texts of notes, what notes say, default numbers of seats, and dates.
pub mod Refusals
pub mod NoteTexts
pub mod NoteLaws
pub mod Usual
pub mod Dates
-- The lemmas by which a canonical script is written; and setups with the same parts, and records
-- that say the same plain hand.
pub mod WrittenWords
pub mod OneByOne
pub mod Differences
pub mod MoveRows
pub mod ShortScripts
pub mod CanonParts
pub mod StreetRows
pub mod SameSetups
pub mod SamePlay
pub mod SameTraces
pub mod UnusualNumbers
