-- Laws of tables, of the fields of a hand, and of readings.

-- Laws of texts with more text after them.
pub mod Ends
pub mod More
pub mod Blanks
pub mod MoreStrings
pub mod MoreValues
pub mod MoreLines
pub mod Headers
pub mod Cutting
pub mod Fronts
pub mod FirstLines
-- Laws of the fields of a hand.
pub mod Lists
pub mod Zeros
pub mod Games
pub mod NoRakes
-- Laws of readings.
pub mod NumberOrder
pub mod Placing
pub mod Counting
pub mod Documents
pub mod Ascending
pub mod Refused
pub mod InTurn
