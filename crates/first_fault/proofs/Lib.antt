-- Laws of reading one item after another, as a loop does, and of digits.
pub mod EachItem
pub mod Thread
pub mod Added
pub mod FailsThen
pub mod MoreDigits
pub mod DecimalDigits
