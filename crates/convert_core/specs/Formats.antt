-- The notations that there are: the meaning of each, and the words for it.
use Rattle.std.specs.Prelude.{ℕ, List, Option}
use Rattle.convert_core.specs.Acpc as in_acpc
use Rattle.convert_core.specs.Meaning.{AreReadBack, Meaning}
use Rattle.convert_core.specs.Ohh as in_ohh
use Rattle.convert_core.specs.Phh as in_phh
use Rattle.convert_core.specs.declared.format.Format.{Format}
use Rattle.convert_core.specs.declared.format.Format.TheVariants as formats
use Rattle.convert_core.specs.declared.format_fault.FormatFault.{FormatFault}
use Rattle.hand_canon.specs.SaidNotes.{SaidNotes}
use Rattle.hand_canon.specs.SameHands.{kept_notes}
use Rattle.hand_canon.specs.WriteRefusals.{first_refusal}
use Rattle.hand_canon.specs.declared.record.Record.{Record}
use Rattle.hand_canon.specs.declared.trace.Play.{Play}
use Rattle.hand_canon.specs.declared.writing.Keep.{Keep}
use Rattle.hand_canon.specs.declared.writing.Unspelled.{Unspelled}
use Rattle.hand_canon.specs.declared.writing.WriteRefusal.{WriteRefusal}

-- what a notation means
abbrev pub meaning_of : Format → Meaning
meaning_of formats.Phh = in_phh.meaning
meaning_of (formats.Ohh dialect) = in_ohh.meaning dialect
meaning_of (formats.Acpc game) = in_acpc.meaning game

-- the bytes read as these records
abbrev pub SayRecords : Format → List ℕ → List Record → Type 0
SayRecords format bytes records = (meaning_of format).Say bytes records

-- the bytes read as this number of hands
abbrev pub ReadAsHands : Format → List ℕ → ℕ → Type 0
ReadAsHands format bytes count = (meaning_of format).ReadAsHands bytes count

-- the bytes cannot be read as hands, and this is their first fault
abbrev pub HaveFault : Format → List ℕ → FormatFault → Type 0
HaveFault format bytes fault = (meaning_of format).HaveFault bytes fault

-- the numbers of the lines on which the hands in the bytes begin, counted from 1; none are given
-- for the Poker Hand History format
abbrev pub start_lines : Format → List ℕ → List ℕ
start_lines format bytes = (meaning_of format).first_lines bytes

-- bytes spell plays in a notation
abbrev pub SpellPlays : Format → List Play → List ℕ → Type 0
SpellPlays format plays bytes = (meaning_of format).Spell plays bytes

-- the first fact of a play that a notation cannot write, among those that are to be kept
abbrev pub unspelled_in : Format → Keep → Play → Option Unspelled
unspelled_in format keep play = (meaning_of format).unspelled keep play

-- the first play that a notation cannot write, and its first fact that cannot be written
abbrev pub first_refusal_in : Format → Keep → List Play → Option WriteRefusal
first_refusal_in to keep plays = first_refusal (unspelled_in to keep) plays

-- the notes that a notation can write
abbrev pub kept_in : Format → SaidNotes → SaidNotes
kept_in format notes = (meaning_of format).kept notes

-- two files of a notation are the same: as TOML tables, or byte for byte
abbrev pub AreSameIn : Format → List ℕ → List ℕ → Type 0
AreSameIn format bytes too = (meaning_of format).AreSame bytes too

-- bytes read back as plays in a notation: they read as the same number of hands, each legal and
-- with the whole trace of its play, stated facts that agree, and the kept notes: all notes, or
-- those that the notation can write
abbrev pub ReadsBack : Format → Keep → List Play → List ℕ → Type 0
ReadsBack to keep plays bytes =
    AreReadBack (meaning_of to) (kept_notes keep (kept_in to)) plays bytes
