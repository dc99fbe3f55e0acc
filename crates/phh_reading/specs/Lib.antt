-- What bytes in the Poker Hand History format say, table by table and field by field.

-- A text that is cut into tables.
pub mod Tables
pub mod Worked
-- The fields of a hand in the Poker Hand History format.
pub mod Fields
pub mod Rows
pub mod SetupFields
pub mod NoteFields
-- The hands in bytes in the Poker Hand History format.
pub mod Events
pub mod Hand
pub mod Stripped
pub mod Order
pub mod Reading
pub mod FaultText
pub mod NextTable
