-- When a play that is legal under the rules of one notation suits those of another.
use Rattle.std.specs.Prelude.{◌≡◌, ℕ, ◌-◌, ◌≤◌, Bool, false, ◌&&◌, nat_le, slice_index, IfSome}
use Rattle.std.specs.List.{list_any}
use Rattle.play_event.specs.Past.{is_folding}
use Rattle.play_event.specs.Raising.{raises_on}
use Rattle.play_event.specs.Trace.{TracedMove}
use Rattle.play_event.specs.declared.setup.Reopen.TheVariants as reopens
use Rattle.play_event.specs.declared.setup.Rules.{Rules}
use Rattle.play_event.specs.CanonScript.{plain_moves}
use Rattle.play_event.specs.TraceCore.{TraceCore}

-- a fold of a seat that owes nothing
abbrev pub is_free_fold : TracedMove → Bool
is_free_fold move = is_folding move.act && nat_le move.price move.from

-- A play suits rules: if only full raises reopen the betting, no raise is made where it would be
-- closed; if a fold needs a bet to fold to, each fold has one; and if there are caps, the raises of
-- each of the first four streets are within its cap.
pub record SuitsRules (rules : Rules) (trace : TraceCore) : Type 0 where
  pub no_closed_raise : rules.reopen ≡ reopens.Full
      → list_any (λ move. move.closed) trace.moves ≡ false
  pub no_free_fold : rules.free_fold ≡ false → list_any is_free_fold trace.moves ≡ false
  pub within_caps : IfSome rules.caps (λ caps. (street : ℕ) → street ≤ 4
      → raises_on (plain_moves trace.moves) street ≤ slice_index caps (street - 1))
