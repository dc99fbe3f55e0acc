pub mod ValidBy
-- What holds for each of six seats, the only seat that contends, traces as numbers, hands that
-- share by points, notes that name nobody, and plays of a hand that is written out.
pub mod FewSeats
pub mod OneContends
pub mod SameNumbers
pub mod Traced
pub mod ByPoints
pub mod BlankNotes
pub mod Steal
pub mod SaidPlays

-- No lemmas are needed.
