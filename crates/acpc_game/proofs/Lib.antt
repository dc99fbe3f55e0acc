-- Laws of parts, lines, words and letters.
pub mod PartLaws
pub mod LineLaws
pub mod FoundLines
pub mod Scan
-- Laws of words, lines and games.
pub mod Steps
pub mod Bounds
pub mod Played
pub mod Forms
pub mod Built
pub mod NumbersAgain
pub mod WrittenLines
pub mod GameLines
pub mod GameAgain
