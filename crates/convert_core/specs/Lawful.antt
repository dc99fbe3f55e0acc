-- The laws that a notation keeps, said of what it means.
use Rattle.std.specs.Prelude.{◌≡◌, ◌↔◌, ℕ, ◌<◌, Bool, true, false, List, [], length, None, Some, IfSome}
use Rattle.std.specs.List.{AllByRecursion}
use Rattle.convert_core.specs.Meaning.{AreReadBack, Meaning}
use Rattle.convert_core.specs.NoteParts.{ArePartOf}
use Rattle.convert_core.specs.ReadOrFail.{ReadOrFail}
use Rattle.convert_core.specs.Records.{AreFew, AreOfFile}
use Rattle.convert_core.specs.SameRecords.{AllAlike}
use Rattle.first_fault.specs.declared.limits.TheConstants.{MOST_HANDS}
use Rattle.hand_canon.specs.Sharp.{IsOther, is_sharp}
use Rattle.hand_canon.specs.Sound.{IsSound}
use Rattle.hand_canon.specs.SaidNotes.{SaidNotes, notes_of}
use Rattle.hand_canon.specs.SameHands.{AreSameHand, AreSameHands}
use Rattle.hand_canon.specs.WriteRefusals.{first_refusal}
use Rattle.hand_canon.specs.declared.record.Record.{Record}
use Rattle.hand_canon.specs.declared.trace.Play.{Play}
use Rattle.hand_canon.specs.declared.writing.Keep.{Keep}
use Rattle.hand_canon.specs.declared.writing.Keep.TheVariants as keeps
use Rattle.hand_canon.specs.declared.writing.Unspelled.{Unspelled}
use Rattle.hand_canon.specs.declared.writing.Unspelled.TheVariants as facts

-- a fact is a note
abbrev pub is_note : Unspelled → Bool
is_note (facts.Note name) = true
is_note fact = false

-- a notation with this meaning keeps the laws
pub record Lawful (it : Meaning) : Type 0 where
  -- What bytes say is sound under the rules of the notation, and is at most as many records as a
  -- file may have.
  pub reads_file : (bytes : List ℕ) (hands : List Record) → it.Say bytes hands
      → AreOfFile it.rules hands
  -- For all bytes exactly one of two holds: they read as one number of hands, or they have one
  -- fault, which is not that memory ran out.
  pub read_or_fail : (bytes : List ℕ) → ReadOrFail (it.ReadAsHands bytes) (it.HaveFault bytes)
  -- The bytes say as many records as hands that they read as.
  pub say_as_many : (bytes : List ℕ) (hands : List Record) → it.Say bytes hands
      → it.ReadAsHands bytes (length hands)
  -- Bytes say one list of records, up to differences that cannot be observed.
  pub one_reading : (bytes : List ℕ) (hands others : List Record)
      → it.Say bytes hands → it.Say bytes others → AllAlike hands others
  -- If a play has a fact that the notation cannot express, then no record in any bytes is a legal
  -- hand with the trace of the play. Odd chips and notes are excepted: a hand that is read may have
  -- these.
  pub sharp : (keep : Keep) (play : Play) (fact : Unspelled)
      → it.unspelled keep play ≡ Some fact → is_sharp fact ≡ true
      → (bytes : List ℕ) (hands : List Record) → it.Say bytes hands
      → AllByRecursion (IsOther play) hands
  -- If files consist of lines, the file of no plays is empty.
  pub no_lines : it.is_lined ≡ true → it.Spell [] []
  -- Sound plays that it can express read back, once written, as these plays: as the same number of
  -- hands, which are legal under the rules of the notation, with the whole traces, stated facts
  -- that agree, and the notes that it can express.
  pub reads_back : (keep : Keep) (plays : List Play) (bytes : List ℕ)
      → AreFew plays → AllByRecursion IsSound plays
      → first_refusal (it.unspelled keep) plays ≡ None → it.Spell plays bytes
      → AreReadBack it it.kept plays bytes
  -- It makes up no note.
  pub kept_part : (notes : SaidNotes) → ArePartOf (it.kept notes) notes
  -- It forgets no note that it can express: if it can express all of some notes, they are kept as
  -- part of any larger notes.
  pub kept_most : (part notes : SaidNotes)
      → ArePartOf part notes → it.kept part ≡ part → ArePartOf part (it.kept notes)
  -- The notes that it keeps, it can express.
  pub kept_again : (notes : SaidNotes) → it.kept (it.kept notes) ≡ it.kept notes
  -- Which fact of a play it cannot express depends only on the trace and on what the notes say.
  pub same_fact : (keep : Keep) (place : ℕ) (play other : Play)
      → place < MOST_HANDS → IsSound play → IsSound other
      → AreSameHand (λ notes. notes) place play other
      → it.unspelled keep play ≡ it.unspelled keep other
  -- If only the notes that it can express are kept, this depends only on the trace.
  pub trace_fact : (play other : Play) → play.trace ≡ other.trace
      → it.unspelled keeps.Spelled play ≡ it.unspelled keeps.Spelled other
  -- And then what it cannot express is never a note.
  pub no_note : (play : Play)
      → IfSome (it.unspelled keeps.Spelled play) (λ fact. is_note fact ≡ false)
  -- It can express all notes of a play if and only if the notes that it keeps are all that are
  -- said: so if it can express everything in a play, no note of the play is forgotten.
  pub all_spelled : (place : ℕ) (play : Play) → place < MOST_HANDS → IsSound play
      → (it.unspelled keeps.All play ≡ None)
      ↔ ((it.unspelled keeps.Spelled play ≡ None)
      × (it.kept (notes_of place play) ≡ notes_of place play))
  -- Plays that are the same, in the notes that it can express, are written as the same file.
  pub one_spelling : (plays others : List Play) (bytes too : List ℕ)
      → AllByRecursion IsSound plays → AllByRecursion IsSound others
      → it.Spell plays bytes → it.Spell others too
      → AreSameHands it.kept plays others → it.AreSame bytes too
  -- And plays that are written as the same file are the same.
  pub same_hands : (keep : Keep) (plays others : List Play) (bytes too : List ℕ)
      → AreFew plays → AreFew others
      → AllByRecursion IsSound plays → AllByRecursion IsSound others
      → first_refusal (it.unspelled keep) plays ≡ None
      → first_refusal (it.unspelled keep) others ≡ None
      → it.Spell plays bytes → it.Spell others too
      → it.AreSame bytes too → AreSameHands it.kept plays others
