-- Laws of letters, cards, numbers and names, and of reading them one after another.
pub mod EachLetter
pub mod CardLaws
pub mod NumberLaws
pub mod UsualNames
pub mod Rows
pub mod Dealing
pub mod Lines
pub mod HandLines
pub mod SixFields
pub mod Checked
pub mod BettingCounts
pub mod ScriptCounts
pub mod MatchSetups
pub mod MatchRecords
