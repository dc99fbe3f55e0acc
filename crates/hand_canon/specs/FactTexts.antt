-- The printed names of notes, and of the facts that a notation cannot express.
use Rattle.std.specs.Prelude.{ℕ, List, ◌++◌, codes}
use Rattle.hand_canon.specs.NoteTable.{note_text}
use Rattle.hand_canon.specs.declared.writing.Unspelled.{Unspelled}
use Rattle.hand_canon.specs.declared.writing.Unspelled.TheVariants as facts

-- the name of a fact
abbrev pub fact_text : Unspelled → List ℕ
fact_text facts.Variant = codes "Variant"
fact_text facts.SeatCount = codes "SeatCount"
fact_text facts.Stacks = codes "Stacks"
fact_text facts.BetSizes = codes "BetSizes"
fact_text facts.Antes = codes "Antes"
fact_text facts.Blinds = codes "Blinds"
fact_text facts.Rake = codes "Rake"
fact_text facts.ReopenedShort = codes "ReopenedShort"
fact_text facts.FreeFold = codes "FreeFold"
fact_text facts.TooManyRaises = codes "TooManyRaises"
fact_text facts.RaiseTarget = codes "RaiseTarget"
fact_text facts.PartCards = codes "PartCards"
fact_text facts.Muck = codes "Muck"
fact_text facts.OddChip = codes "OddChip"
fact_text (facts.Note name) = codes "Note " ++ note_text name
