-- How plays are written in the Poker Hand History format, and what is read back from them.

-- How plays are written in the Poker Hand History format: the facts that it can write, and the one
-- document for them.
pub mod Spelled
pub mod Members
pub mod HandFields
pub mod Document
-- What is read back from plays that were written, which notes are kept, and when two texts are the
-- same table.
pub mod Again
pub mod KeptNotes
pub mod SameTables
