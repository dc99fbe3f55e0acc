-- What the running numbers of the betting say, and which up-cards open before others.

-- Ranks in order, the classes of up-cards, and which open at least as early as others.
pub mod HeightRow
pub mod UpClass
pub mod Earliest
-- The running numbers of the betting: what they say, and which past they stand for.
pub mod Caps
pub mod TurnSaid
pub mod Seen
pub mod Moving
pub mod Turn
pub mod Why
pub mod Traced
pub mod Standing
pub mod Posting
pub mod LegalMoves
pub mod UpTo
pub mod Targeted
pub mod UpSeen
