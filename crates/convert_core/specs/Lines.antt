-- What is written for hands in a notation with one line per hand.
use Rattle.std.specs.Prelude.{◌≡◌, ℕ, true, List, Option, None}
use Rattle.hand_canon.specs.WriteRefusals.{first_refusal}
use Rattle.hand_canon.specs.declared.writing.Keep.{Keep}
use Rattle.hand_canon.specs.declared.writing.WriteRefusal.{WriteRefusal}
use Rattle.convert_core.specs.Meaning.{Meaning}
use Rattle.convert_core.specs.Verdicts.{Verdict, legal_plays}

-- The first fact among the plays that cannot be expressed is remembered; and if there is none, what
-- is written is these plays.
pub record IsWritten (to : Meaning) (keep : Keep) (refusal : Option WriteRefusal) (out : List ℕ)
    (verdicts : List Verdict) : Type 0 where
  pub lined : to.is_lined ≡ true
  pub first : first_refusal (to.unspelled keep) (legal_plays verdicts) ≡ refusal
  pub spell : refusal ≡ None → to.Spell (legal_plays verdicts) out
