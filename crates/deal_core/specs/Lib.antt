-- How the state of the cards stands for a past, and how events of cards are answered.
pub mod Standing
pub mod Answered
pub mod Board
pub mod NextDeal
