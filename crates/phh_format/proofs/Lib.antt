-- Laws of what is written, and of what is read back.

-- Laws of what is written.
pub mod Bounds
pub mod CanonWords
pub mod Documents
pub mod Puts
pub mod Shape
pub mod Spelt
-- Laws of what is read back.
pub mod Readable
pub mod RowsAgain
pub mod SetupAgain
pub mod NotesAgain
pub mod SeatingAgain
pub mod EventsAgain
pub mod HandAgain
pub mod OrderAgain
pub mod FileAgain
pub mod SoundPlays
pub mod KeptAgain
pub mod ReadBack
pub mod OneForm
pub mod Sharpness
