-- Laws of the members of a hand.
pub mod Lists
pub mod Cards
pub mod EachIndex
pub mod Round
