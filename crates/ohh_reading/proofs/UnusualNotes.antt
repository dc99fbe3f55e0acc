-- A text that is not the default of its note is the text of a note.
use Rattle.std.proofs.Common.{List, ℕ, Option, Some, None, Result, Ok, Err, IfOk, IfSome}
use Rattle.hand_canon.specs.AllowedNotes.{IsNoteText, IsUnusualNote}

pub unusual_text : {F : Type 0} (default : List ℕ) (found : Result (Option (List ℕ)) F) → IfOk found (λ note. IfSome note (IsUnusualNote default)) → IfOk found (λ note. IfSome note IsNoteText)
unusual_text default (Err fault) is = tt
unusual_text default (Ok None) is = tt
unusual_text default (Ok (Some note)) is = is.text
