-- The answer of `compare`: the hands are the same, or the first that differs is named, or the two
-- numbers of hands.
use Rattle.std.specs.Prelude.{◌==◌, ℕ, ◌+◌, Bool, if◌then◌else◌, List, [], ◌∷◌, ◌++◌, length, codes, Option, Some, None, option_map, ◌≡◌}
use Rattle.std.specs.Option.{option_or}
use Rattle.std.specs.Fmt.{decimal}
use Rattle.convert_core.specs.Conversion.{ReadAsPlays, ReadAsRefused}
use Rattle.convert_core.specs.declared.format_fault.FormatFault.{FormatFault}
use Rattle.convert_core.specs.declared.refusal.Refusal.{Refusal}
use Rattle.hand_differences.specs.DifferenceText.{difference_text}
use Rattle.hand_differences.specs.FirstDifference.{PlainDifference, difference_said, reported_difference}
use Rattle.hand_canon.specs.declared.trace.Play.{Play}
use Rattle.poker_cli.specs.AnswerParts.{Answer, done, most_input, refusal, to_fault, to_refusal}
use Rattle.convert_core.specs.Formats.{HaveFault, SayRecords}
use Rattle.poker_cli.specs.Limits.{excess_line}
use Rattle.poker_cli.specs.declared.compare.HandDifference.{HandDifference}
use Rattle.poker_cli.specs.declared.status.Status.TheVariants as statuses
use Rattle.convert_core.specs.declared.format.Format.{Format}

-- a hand that differs from the one with the same number in the other file: its number, from 1, and
-- the first difference
pub record DifferentHand : Type 0 where
  pub number : ℕ
  pub difference : PlainDifference

-- a hand that differs, as the definitions see it
abbrev pub hand_difference_said : HandDifference → DifferentHand
hand_difference_said differs =
    record { number = differs.number; difference = difference_said differs.difference }

-- The first hand that differs, among those that both files have; the first two hands are at this
-- place of their files, from 0. Notes are compared only if `notes` is true.
unfoldable pub first_different : (notes : Bool) → ℕ → List Play → List Play → Option DifferentHand
first_different notes place [] others = None
first_different notes place (play ∷ plays) [] = None
first_different notes place (play ∷ plays) (other ∷ others) =
    option_or
    (option_map (λ difference. record { number = place + 1; difference = difference })
    (reported_difference notes place play other))
    (first_different notes (place + 1) plays others)

-- all hands are the same; this is their number
abbrev pub to_same : ℕ → Answer
to_same hands = done (codes "same hands: " ++ (decimal hands ++ codes "\n"))

-- this hand differs
abbrev pub to_different : DifferentHand → Answer
to_different differs =
    refusal statuses.Differs
    (codes "differs: hand "
    ++ (decimal differs.number
    ++ (codes ": " ++ (difference_text differs.difference ++ codes "\n"))))

-- the files have different numbers of hands: those of the input and of the other file
abbrev pub to_other_count : ℕ → ℕ → Answer
to_other_count hands others =
    refusal statuses.Differs
    (codes "differs: hands "
    ++ (decimal hands ++ (codes " and " ++ (decimal others ++ codes "\n"))))

-- the answer by the first hand that differs, if one does, and by the two numbers of hands
abbrev pub compared_by : Option DifferentHand → ℕ → ℕ → Answer
compared_by (Some differs) hands others = to_different differs
compared_by None hands others =
    if hands == others then to_same hands else to_other_count hands others

-- the answer to the hands of an input compared with those of another file
abbrev pub compared : (notes : Bool) → List Play → List Play → Answer
compared notes plays others =
    compared_by (first_different notes 0 plays others) (length plays) (length others)

-- the answer that reports a fault inside the other file of a comparison
abbrev pub in_file : Answer → Answer
in_file answer = record answer { line = codes "file: " ++ answer.line }

-- The answer to the plays of an input that are compared with the hands of the other file.
pub data IsComparedWith (other : Format) (notes : Bool) (file : List ℕ) (plays : List Play) : Answer
    → Type 0 where
  -- the other file cannot be read as hands
  OtherUnread : (fault : FormatFault) → HaveFault other file fault → (answer : Answer)
      → to_fault fault ≡ Some answer
      → IsComparedWith other notes file plays (in_file answer)
  -- a hand in the other file is refused
  OtherRefused : (number : ℕ) (why : Refusal) → ReadAsRefused (SayRecords other file) number why
      → IsComparedWith other notes file plays (in_file (to_refusal number why))
  -- all its hands are legal and agree with what is stated of them, and are compared with those of
  -- the input
  OtherPlayed : (others : List Play) → ReadAsPlays (SayRecords other file) others
      → IsComparedWith other notes file plays (compared notes plays others)

-- the answer if the other file of a comparison is too long
abbrev pub to_file_excess : Answer
to_file_excess = refusal statuses.Limit (excess_line (codes "file bytes") most_input)
