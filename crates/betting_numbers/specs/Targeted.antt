-- The least legal target of a raise, by the running numbers.
use Rattle.std.specs.Prelude.{ℕ, ◌+◌, List}
use Rattle.play_event.specs.declared.limit.Limit.{Limit}
use Rattle.play_event.specs.Targets.{least_by}
use Rattle.betting_numbers.specs.declared.betting_state.BettingState.{BettingState}
use Rattle.betting_numbers.specs.Seen.{current_bet_seen, all_in_seen}
use Rattle.betting_numbers.specs.Why.{full_raise_targets_seen}
use Rattle.play_event.specs.Past.{Move}
use Rattle.play_event.specs.TurnTargets.{AreTargets}
use Rattle.betting_numbers.specs.declared.targeting.Targets.{Targets}

-- the least legal target of a seat, given the floor (the least no-limit raise that is not all-in)
abbrev pub least_seen : Limit → BettingState → (floor seat : ℕ) → ℕ
least_seen limit b floor seat =
    least_by limit floor (current_bet_seen b + b.full_raise) (all_in_seen b seat)
    (full_raise_targets_seen b)

-- these are the least and the greatest legal target of a seat after these moves, and its all-in
abbrev pub AreEndsFor : BettingState → List Move → ℕ → Targets → Type 0
AreEndsFor b moves seat targets =
    AreTargets b.setup b.rules moves b.street seat targets.least targets.greatest targets.all_in
