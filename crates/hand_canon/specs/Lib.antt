-- What records and traces say, and which hands and plays are legal and sound. Also passes on what a
-- trace keeps without its shares, and its canonical script.

pub use Rattle.play_event.specs.TraceCore
pub use Rattle.play_event.specs.CanonScript
pub use Rattle.play_event.specs.PlayedScript
pub use Rattle.play_event.specs.Tidy
-- Records and traces: what their rows say, which notes are allowed and are said, what a record is
-- as a reader returns it, what it says with plain lists, and when hands are the same.
pub mod NetRow
pub mod TraceRows
pub mod NoteTable
pub mod AllowedNotes
pub mod SaidNotes
pub mod PlainHands
pub mod SameHands
pub mod SoundRecord
pub mod Moves
pub mod WriteRefusals
pub mod FactTexts
pub mod Histories
pub mod Plays
pub mod StatedFacts
-- Legal hands, the shares of a whole trace, sound plays, what stated facts are compared with, and
-- hands that are read back from what was written.
pub mod LegalHand
pub mod WholeTrace
pub mod Sound
pub mod Agreement
pub mod DifferingFact
pub mod LegalPlay
pub mod ReadAgain
pub mod Numbers
pub mod SaidSoFar
pub mod RowTests
pub mod Sharp
