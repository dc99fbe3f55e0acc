-- What `convert` answers: the same hands in another notation.
use Rattle.std.specs.Prelude.{◌≡◌, ℕ, List, Option, Some, None}
use Rattle.hand_canon.specs.WriteRefusals.{first_refusal}
use Rattle.hand_canon.specs.declared.trace.Play.{Play}
use Rattle.hand_canon.specs.declared.writing.Keep.{Keep}
use Rattle.hand_canon.specs.declared.writing.Unspelled.{Unspelled}
use Rattle.hand_canon.specs.declared.writing.WriteRefusal.TheVariants as refusals
use Rattle.poker_cli.specs.AnswerParts.{Answer, done, to_unspelled}
use Rattle.convert_core.specs.Formats.{ReadsBack, SpellPlays, unspelled_in}
use Rattle.convert_core.specs.declared.format.Format.{Format}

-- The answer if plays are written in a notation. The notation says which fact of a play it cannot
-- write first, which bytes spell the plays, and what it means that bytes read back as them.
pub data IsWritten (unspelled : Play → Option Unspelled)
    (Spell Back : List Play → List ℕ → Type 0) (plays : List Play) :
    Answer → Type 0 where
  -- a fact that is to be kept cannot be written, and this is the first such fact
  NotSpelled : (number : ℕ) (fact : Unspelled)
      → first_refusal unspelled plays ≡ Some (refusals.Unspelled number fact)
      → IsWritten unspelled Spell Back plays (to_unspelled number fact)
  -- all facts can be written, and the bytes that spell the plays read back as them
  Spelled : first_refusal unspelled plays ≡ None → (bytes : List ℕ) → Spell plays bytes
      → Back plays bytes
      → IsWritten unspelled Spell Back plays (done bytes)

-- the answer to a conversion of plays to a notation; `keep` says which notes are kept
abbrev pub IsConversion : Format → Keep → List Play → Answer → Type 0
IsConversion to keep plays answer =
    IsWritten (unspelled_in to keep) (SpellPlays to) (ReadsBack to keep) plays answer
