-- The posts of a hand: how they are read, which conditions they meet, and the antes and blinds that
-- they give.
pub mod Posts
pub mod NamedBlinds
pub mod PostRules
pub mod AntesAndBlinds
-- The rounds of a hand in Open Hand History: streets, the steps so far, actions, rounds, and the
-- play made of them.
pub mod Streets
pub mod Steps
pub mod StoredSeats
pub mod HandContext
pub mod Actions
pub mod Rounds
pub mod Play
