-- The answers of the state are those of the rules.
pub mod Same
pub mod WhyDeal
pub mod WhyDiscard
pub mod WhyShow
pub mod StandsAfter
pub mod StandsDiscard
pub mod StandsShow
pub mod Answers
pub mod StandsMove
pub mod DiscardTurn
pub mod IsDone
pub mod Boards
pub mod Games
pub mod Owing
