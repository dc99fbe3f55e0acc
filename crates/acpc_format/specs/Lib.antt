-- How plays are written as the lines of a log, and what such a log says when it is read again.

-- The line that a log has for a play, the facts of a play that the logs of a game cannot write, and
-- the game that a hand fits.
pub mod Seats
pub mod Rounds
pub mod Betting
pub mod Cards
pub mod Values
pub mod Names
pub mod Line
pub mod Texts
pub mod Puts
pub mod SetupFacts
pub mod PlayFacts
pub mod NoteFacts
pub mod Spelled
pub mod GameOf
-- What a written log says when it is read again, and which notes it keeps.
pub mod Again
pub mod KeptNotes
