-- What rows say of the seats, the pots that chips make, and what is left of the pots after the
-- rake.
pub mod Seat
pub mod SeatRow
pub mod LiveRow
pub mod Fillers
pub mod PotRow
pub mod RakeRow
pub mod Greatest
pub mod Pots
pub mod Rakes
pub mod AmountTexts
pub mod Sizes
pub mod SeatsSaid
