-- Bytes are read in one way: as the same plays, or with one fault, and not both.
use Rattle.std.proofs.Common.{◌≡◌, ℕ, List, Some, ap, sym, ◌∙◌}
use Rattle.std.proofs.lemmas.Option.{same_Some}
use Rattle.convert_core.proofs.LawfulNotations.{AreReadSame, all_read_same, no_fault, one_fault}
use Rattle.convert_core.proofs.OneConversion.{all_same}
use Rattle.convert_core.proofs.OneOutcome.{no_plays}
use Rattle.convert_core.specs.Conversion.{ReadAsPlays}
use Rattle.convert_core.specs.FormatLaws.{lawful_of}
use Rattle.convert_core.specs.Formats.{HaveFault, SayRecords}
use Rattle.convert_core.specs.Judged.{ArePlaysOf, IsFirstRefused}
use Rattle.convert_core.specs.SameRecords.{AllAlike}
use Rattle.convert_core.specs.declared.format.Format.{Format}
use Rattle.convert_core.specs.declared.format_fault.FormatFault.{FormatFault}
use Rattle.convert_core.specs.declared.refusal.Refusal.{Refusal}
use Rattle.hand_canon.specs.declared.record.Record.{Record}
use Rattle.hand_canon.specs.declared.trace.Play.{Play}
use Rattle.poker_cli.specs.AnswerParts.{Answer, to_fault}

unfoldable pub AllToldAlike : (FormatFault → Type 0) → Type 0
AllToldAlike HaveFault =
    (fault other : FormatFault) (answer too : Answer) → HaveFault fault → HaveFault other → to_fault fault ≡ Some answer → to_fault other ≡ Some too → answer ≡ too

unfoldable pub AllReadSame : (List Record → Type 0) → Type 0
AllReadSame Say = (plays others : List Play) → ReadAsPlays Say plays → ReadAsPlays Say others → AreReadSame plays others

unfoldable pub SayOrFault : (List Record → Type 0) → (FormatFault → Type 0) → Type 0
SayOrFault Say HaveFault = (records : List Record) (fault : FormatFault) → Say records → HaveFault fault → ⊥

pub refused_or_played : (records others : List Record) (number : ℕ) (why : Refusal) (plays : List Play) → AllAlike records others
    → IsFirstRefused records number why → ArePlaysOf others plays → ⊥
refused_or_played records others number why plays alike first are =
    no_plays records others number why plays (all_same records others alike) first are

-- a fault of bytes is reported in one way
pub one_told : (reader : Format) (bytes : List ℕ) → AllToldAlike (HaveFault reader bytes)
unfolding AllToldAlike
one_told reader bytes fault other answer too have has shown tells =
    same_Some answer too (sym shown ∙ ap to_fault (one_fault (lawful_of reader) bytes fault other have has) ∙ tells)

-- bytes with a fault are not read as records
pub say_or_fault : (reader : Format) (bytes : List ℕ) → SayOrFault (SayRecords reader bytes) (HaveFault reader bytes)
unfolding SayOrFault
say_or_fault reader bytes records fault say have = no_fault (lawful_of reader) bytes records fault say have

-- the plays of bytes are the same
pub read_the_same : (reader : Format) (bytes : List ℕ) → AllReadSame (SayRecords reader bytes)
unfolding AllReadSame
read_the_same reader bytes plays others is it = all_read_same (lawful_of reader) bytes plays others is it
