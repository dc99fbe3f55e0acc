-- The set of legal targets, from the lowest and the highest of them and the game's limit.
use Rattle.std.specs.Prelude.{ℕ, false, ◌==◌, if◌then◌else◌, [], ◌∷◌, Option, Some, None}
use Rattle.betting_numbers.specs.declared.targeting.Targets.{Targets}
use Rattle.play_event.specs.declared.limit.Limit.{Limit}
use Rattle.play_event.specs.declared.limit.Limit.TheVariants as limits
use Rattle.play_event.specs.declared.reason.Due.{Due}
use Rattle.hand_options.specs.declared.choices.Options.{Options}
use Rattle.hand_options.specs.declared.choices.RaiseSet.{RaiseSet}
use Rattle.hand_options.specs.declared.choices.RaiseSet.TheVariants as sets

-- all from the first to the last, or in fixed limit only these two
abbrev pub set_between : Limit → (least greatest : ℕ) → RaiseSet
set_between limits.No least greatest = sets.Range least greatest
set_between limits.Pot least greatest = sets.Range least greatest
set_between limits.Fixed least greatest =
    if least == greatest then sets.List 1 (least ∷ 0 ∷ []) else sets.List 2 (least ∷ greatest ∷ [])

-- the set if the player to act may raise, and if not
abbrev pub set_of : Limit → Option Targets → RaiseSet
set_of limit None = sets.None
set_of limit (Some ends) = set_between limit ends.least ends.greatest

-- no move is legal
abbrev pub no_options : Due → Options
no_options due = record {
  due = due;
  seat = None;
  fold = false;
  call = None;
  bring_in = None;
  raise = sets.None;
}
