-- Laws of the pots and notes of a hand, and of reading the bytes of a file.

-- Laws of the parts of a hand other than its play.
pub mod Nine
pub mod NamesFrom
pub mod Dated
pub mod PaidSame
pub mod UnusualNotes
-- Laws of reading the bytes of a file.
pub mod Trees
pub mod Lines
pub mod BlockLines
pub mod Refused
