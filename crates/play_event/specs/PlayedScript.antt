-- Scripts that are played to their end, and the most events that a hand may have.
use Rattle.std.specs.Prelude.{◌≡◌, ◌≤◌, Bool, true, false, not, List, reverse, count_by}
use Rattle.play_event.specs.declared.setup.Setup.{Setup}
use Rattle.play_event.specs.declared.setup.Rules.{Rules}
use Rattle.play_event.specs.Said as said
use Rattle.play_event.specs.Said.{Said}
use Rattle.play_event.specs.Scripts.{has_early_end}
use Rattle.play_event.specs.Laws.{AreLegal}
use Rattle.play_event.specs.declared.hand_limits.TheConstants.{MOST_MOVES, MOST_OTHER_EVENTS}

-- a script is played to its end: each event is legal, and after the last one nothing is due except
-- shows
pub record IsPlayed (setup : Setup) (rules : Rules) (script : List Said) : Type 0 where
  pub legal : AreLegal setup rules (reverse script)
  pub complete : has_early_end setup script ≡ false

-- an event is a move
abbrev pub is_move_event : Said → Bool
is_move_event (said.Fold actor) = true
is_move_event (said.Call actor stated) = true
is_move_event (said.Raise actor amount) = true
is_move_event (said.BringIn actor) = true
is_move_event (said.Hole seat cards) = false
is_move_event (said.Board cards) = false
is_move_event (said.Discard seat cards) = false
is_move_event (said.Show seat cards) = false
is_move_event (said.Muck seat) = false

-- a script has no more moves and no more other events than a hand may have
pub record IsWithinLimits (script : List Said) : Type 0 where
  pub moves : count_by is_move_event script ≤ MOST_MOVES
  pub others : count_by (λ event. not (is_move_event event)) script ≤ MOST_OTHER_EVENTS
