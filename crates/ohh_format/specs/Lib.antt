-- What is read back from plays that were written, which notes are kept, and which facts no bytes
-- can express.
pub mod Again
pub mod KeptNotes
pub mod Sharp
