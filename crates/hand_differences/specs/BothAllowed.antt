-- Notes that two hands may have.
use Rattle.std.specs.Prelude.{ℕ}
use Rattle.hand_canon.specs.AllowedNotes.{AreAllowed}
use Rattle.hand_canon.specs.declared.notes.Notes.{Notes}

-- The notes of two hands with this number of seats are allowed for them.
pub record AreBothAllowed (count : ℕ) (first second : Notes) : Type 0 where
  pub notes : AreAllowed count first
  pub others : AreAllowed count second
