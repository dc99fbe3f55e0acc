-- The cards and scores of the seats at the end of a hand, and the shares of all pots.
pub mod Hands
pub mod Scores
pub mod SeatPoints
pub mod Alike
pub mod Laws
pub mod Playable
