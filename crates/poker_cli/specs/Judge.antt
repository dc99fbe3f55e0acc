-- What `judge` prints: one line per hand with its verdict, and then the number of legal hands.
use Rattle.std.specs.Prelude.{◌≡◌, ℕ, ◌+◌, Bool, true, false, List, [], ◌∷◌, ◌++◌, length, codes, slice_get, Option, Some, None}
use Rattle.std.specs.Fmt.{decimal}
use Rattle.convert_core.specs.FaultText.{refusal_text}
use Rattle.convert_core.specs.Verdicts.{AreVerdictsOn, Legal, Refused, Verdict, legal_plays}
use Rattle.convert_core.specs.declared.format_fault.FormatFault.{FormatFault}
use Rattle.hand_canon.specs.declared.record.Record.{Record}
use Rattle.poker_cli.specs.AnswerParts.{Answer, done, to_fault}

-- these lines if they are asked for
abbrev pub if_asked : Bool → (lines : List ℕ) → List ℕ
if_asked true lines = lines
if_asked false lines = []

-- the verdict on a hand as text: that it is legal, or what is wrong with it first
abbrev pub verdict_text : Verdict → List ℕ
verdict_text (Legal play) = codes "legal"
verdict_text (Refused hand why) = refusal_text why

-- the line of the input on which a hand begins, as text; nothing if no lines are asked for
abbrev pub begins_text : Option ℕ → List ℕ
begins_text None = []
begins_text (Some line) = codes ", line " ++ decimal line

-- the line of the hand with this number, which begins on this line of the input
abbrev pub verdict_line : ℕ → Option ℕ → Verdict → List ℕ
verdict_line number line verdict =
    codes "hand "
    ++ (decimal number
    ++ (begins_text line ++ (codes ": " ++ (verdict_text verdict ++ codes "\n"))))

-- The lines of hands; the first is at this place, counted from 0. Each hand begins on the line of
-- the input that is at its place in `lines`, which is empty if no lines are asked for.
unfoldable pub each_verdict : (lines : List ℕ) → ℕ → List Verdict → List ℕ
each_verdict lines place [] = []
each_verdict lines place (verdict ∷ others) =
    verdict_line (place + 1) (slice_get lines place) verdict
    ++ each_verdict lines (place + 1) others

-- the last line: the number of legal hands, and of all hands
abbrev pub verdicts_end : ℕ → ℕ → List ℕ
verdicts_end legal hands =
    codes "legal hands: " ++ (decimal legal ++ (codes " of " ++ (decimal hands ++ codes "\n")))

-- all that `judge` prints
abbrev pub verdicts_said : (lines : List ℕ) → List Verdict → List ℕ
verdicts_said lines verdicts =
    each_verdict lines 0 verdicts ++ verdicts_end (length (legal_plays verdicts)) (length verdicts)

-- These are the lines of these verdicts, and the number of legal hands among them; it is still
-- known on which lines of the input the hands begin.
pub record ArePrinted (lines known : List ℕ) (text : List ℕ) (legal : ℕ) (verdicts : List Verdict)
    : Type 0 where
  pub said : text ≡ each_verdict lines 0 verdicts
  pub counted : legal ≡ length (legal_plays verdicts)
  pub same : known ≡ lines

-- The text is what is printed for the verdicts on records.
pub record IsVerdictsText (lines : List ℕ) (records : List Record) (text : List ℕ) : Type 0 where
  pub verdicts : List Verdict
  pub are : AreVerdictsOn records verdicts
  pub said : text ≡ verdicts_said lines verdicts

-- The answer to `judge`; the notation of the bytes says which records are in them and which fault
-- they have, and `lines` on which lines the hands begin, if that is asked for.
pub data IsJudgement (Say : List Record → Type 0) (HaveFault : FormatFault → Type 0)
    (lines : List ℕ) : Answer → Type 0 where
  -- the bytes cannot be read as hands
  NotJudged : (fault : FormatFault) → HaveFault fault → (answer : Answer)
      → to_fault fault ≡ Some answer
      → IsJudgement Say HaveFault lines answer
  -- the verdict on each hand is printed: legal or refused
  Judged : (records : List Record) → Say records → (verdicts : List Verdict)
      → AreVerdictsOn records verdicts
      → IsJudgement Say HaveFault lines (done (verdicts_said lines verdicts))
