-- Lemmas on the known cards of a seat, on points, and on the parts of chips.
pub mod Parts
pub mod Bests
pub mod Compared
pub mod Flagged
pub mod Contests
pub mod Judged
pub mod Splitting
pub mod Nets
pub mod FirstRake
pub mod ShareLaws
pub mod LastSeat
