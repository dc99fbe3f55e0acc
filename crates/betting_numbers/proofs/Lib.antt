-- What the running numbers say is what the rules say, and which up-cards open as early as others.

-- Which up-cards open as early as others, and how often their ranks occur.
pub mod Counts
pub mod Earlier
-- What the running numbers say is what the rules say of the past that they stand for.
pub mod OneChanged
pub mod Bridge
pub mod Passing
pub mod NextStreet
pub mod Posting
pub mod AfterMove
pub mod StandsAfter
pub mod Dealt
pub mod CardEvents
pub mod Carded
pub mod WhyMove
pub mod WhyRaise
pub mod InTurn
pub mod Answered
pub mod Leading
pub mod Behind
pub mod FirstMoves
pub mod UpOpener
pub mod TargetEnds
pub mod NextUp
pub mod TraceLaws
pub mod Views
pub mod LegalCards
