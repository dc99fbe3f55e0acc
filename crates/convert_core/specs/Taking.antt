-- What a visitor has visited.
use Rattle.std.specs.Prelude.{◌≡◌, ◌≤◌, ℕ, Bool, true, false, List, length}
use Rattle.hand_canon.specs.declared.record.Record.{Record}
use Rattle.hand_canon.specs.declared.trace.Play.{Play}
use Rattle.convert_core.specs.Verdicts.{AreLegalUnless, AreVerdictsOn, Verdict, legal_plays}

-- This number of verdicts was visited.
pub record HasTaken (Took : List Verdict → Type 0) (count : ℕ) : Type 0 where
  pub verdicts : List Verdict
  pub took : Took verdicts
  pub counted : count ≡ length verdicts

-- The verdicts on these hands, `count` of them, were visited in their order. A visitor that does
-- not continue after a refused hand has visited only legal ones. If plays are retained, they are
-- those of the legal hands; if not, at most one is held.
pub record AreTaken (continues keeps : Bool) (Took : List Verdict → Type 0) (hands : List Record)
    (count : ℕ) (kept : List Play) : Type 0 where
  pub verdicts : List Verdict
  pub are : AreVerdictsOn hands verdicts
  pub took : Took verdicts
  pub counted : count ≡ length verdicts
  pub all_legal : AreLegalUnless continues verdicts
  pub plays : keeps ≡ true → kept ≡ legal_plays verdicts
  pub dropped : keeps ≡ false → length kept ≤ 1
