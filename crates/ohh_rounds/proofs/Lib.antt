-- Laws of posts.
pub mod Stacks
pub mod Noted
pub mod SeatBySeat
-- Laws of rounds.
pub mod Lengths
pub mod OneMore
pub mod OneStep
pub mod Counts
