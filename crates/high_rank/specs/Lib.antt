-- Hands and points of the high orders, and the laws of these orders.
pub mod High
pub mod HighLaw
pub mod ShortDeck
pub mod ShortDeckLaw
pub mod UpHigh
