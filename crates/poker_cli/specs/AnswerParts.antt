-- What all commands share: an answer has an exit status, an output and a diagnostic line; and the
-- answers to an input that is too long, that cannot be read as hands, or that has a refused hand;
-- and to a hand number that is too high.
use Rattle.std.specs.Prelude.{ℕ, List, [], ◌≡◌, codes, Option, Some, None, if◌then◌else◌, ◌-◌, ◌++◌, slice_get}
use Rattle.std.specs.Fmt.{decimal}
use Rattle.convert_core.specs.Conversion.{ReadAsPlays, ReadAsRefused}
use Rattle.convert_core.specs.FaultText.{format_text, refusal_text}
use Rattle.convert_core.specs.Faults.{excess_of, is_out_of_memory}
use Rattle.convert_core.specs.declared.format_fault.FormatFault.{FormatFault}
use Rattle.convert_core.specs.declared.refusal.Refusal.{Refusal}
use Rattle.first_fault.specs.declared.limits.Quantity.{Quantity}
use Rattle.hand_canon.specs.FactTexts.{fact_text}
use Rattle.hand_canon.specs.declared.record.Record.{Record}
use Rattle.hand_canon.specs.declared.trace.Play.{Play}
use Rattle.hand_canon.specs.declared.writing.Unspelled.{Unspelled}
use Rattle.poker_cli.specs.Limits.{excess_line, limit_line}
use Rattle.poker_cli.specs.declared.status.Status.{Status}
use Rattle.poker_cli.specs.declared.status.Status.TheVariants as statuses

-- an answer: its exit status, its output, and the diagnostic line that is printed if it is not done
pub record Answer : Type 0 where
  pub status : Status
  pub output : List ℕ
  pub line : List ℕ

-- an answer without output: a status and its line
abbrev pub refusal : Status → List ℕ → Answer
refusal status line = record { status = status; output = []; line = line }

-- a successful answer with this output
abbrev pub done : List ℕ → Answer
done output = record { status = statuses.Done; output = output; line = [] }

-- the most bytes of an input
abbrev pub most_input : ℕ
most_input = 16777216

-- the answer to an input that is too long
abbrev pub to_excess : Answer
to_excess = refusal statuses.Limit (excess_line (codes "input bytes") most_input)

-- the answer to an input that cannot be read as hands, by its first fault in its notation, and by
-- what it has too many of, if that is the fault
abbrev pub to_unread : FormatFault → Option Quantity → Answer
to_unread fault None =
    refusal statuses.BadInput (codes "bad input: " ++ (format_text fault ++ codes "\n"))
to_unread fault (Some quantity) = refusal statuses.Limit (limit_line quantity)

-- the answer to an input that cannot be read as hands; none if memory ran out
abbrev pub to_fault : FormatFault → Option Answer
to_fault fault =
    if is_out_of_memory fault then None else Some (to_unread fault (excess_of fault))

-- the line of the refused hand with this number
abbrev pub refused_line : ℕ → Refusal → List ℕ
refused_line number why =
    codes "refused: hand " ++ (decimal number ++ (codes ": " ++ (refusal_text why ++ codes "\n")))

-- the answer to a refused hand
abbrev pub to_refusal : ℕ → Refusal → Answer
to_refusal number why = refusal statuses.Refused (refused_line number why)

-- the line of the hand with this number if this fact of it cannot be written
abbrev pub unspelled_line : ℕ → Unspelled → List ℕ
unspelled_line number fact =
    codes "unspelled: hand " ++ (decimal number ++ (codes ": " ++ (fact_text fact ++ codes "\n")))

-- the answer if this fact of the hand with this number cannot be written
abbrev pub to_unspelled : ℕ → Unspelled → Answer
to_unspelled number fact = refusal statuses.Unspelled (unspelled_line number fact)

-- The answer to bytes if it is made from their plays; their notation says which records are in them
-- and which fault they have.
pub data IsAnswerTo (Say : List Record → Type 0) (HaveFault : FormatFault → Type 0)
    (IsMade : List Play → Answer → Type 0) :
    Answer → Type 0 where
  -- the bytes cannot be read as hands
  Unread : (fault : FormatFault) → HaveFault fault → (answer : Answer)
      → to_fault fault ≡ Some answer → IsAnswerTo Say HaveFault IsMade answer
  -- a hand is refused
  Refused : (number : ℕ) (why : Refusal) → ReadAsRefused Say number why
      → IsAnswerTo Say HaveFault IsMade (to_refusal number why)
  -- all hands are legal and agree with what is stated of them
  Played : (plays : List Play) → ReadAsPlays Say plays → (answer : Answer) → IsMade plays answer
      → IsAnswerTo Say HaveFault IsMade answer

-- the play of the hand with a number, from 1
abbrev pub hand_numbered : List Play → ℕ → Option Play
hand_numbered plays number = slice_get plays (number - 1)

-- a number, and how many there are
abbrev pub of_text : ℕ → ℕ → List ℕ
of_text number greatest = decimal number ++ (codes " of " ++ (decimal greatest ++ codes "\n"))

-- there is no hand with this number; the input has this many hands
abbrev pub no_hand : ℕ → ℕ → Answer
no_hand number hands = refusal statuses.NoSuch (codes "no such hand: " ++ of_text number hands)
