-- A past has as many moves as its script says.
use Rattle.std.proofs.Common.{◌≡◌, ◌≤◌, List, [], ◌∷◌, length, count_by, reverse, refl, arith}
use Rattle.card_set.proofs.Counting.{count_by-cons}
use Rattle.card_set.proofs.Reversed.{count_reversed}
use Rattle.play_event.specs.Past.{moves_of}
use Rattle.play_event.specs.Said as said
use Rattle.play_event.specs.Said.{Said}
use Rattle.play_event.specs.Scripts.{past_of, with_event}
use Rattle.play_event.specs.declared.setup.Rules.{Rules}
use Rattle.play_event.specs.declared.setup.Setup.{Setup}
use Rattle.play_event.specs.PlayedScript.{IsPlayed, is_move_event}
use Rattle.play_event.specs.Tidy.{IsTidy}
use Rattle.play_event.specs.TraceCore.{core_after}
use Rattle.play_event.specs.declared.hand_limits.TheConstants.{MOST_MOVES}
use Rattle.canon_laws.proofs.TidyTraces.{tidy_trace}

-- the moves of events, the newest first
pub move_count : (setup : Setup) (events : List Said) → length (moves_of (past_of setup events)) ≡ count_by is_move_event events
unfolding with_event
move_count setup [] = refl
move_count setup (said.Fold named ∷ events) = omega (arith, move_count setup events, count_by-cons is_move_event (said.Fold named) events)
move_count setup (said.Call named stated ∷ events) = omega (arith, move_count setup events, count_by-cons is_move_event (said.Call named stated) events)
move_count setup (said.Raise named amount ∷ events) = omega (arith, move_count setup events, count_by-cons is_move_event (said.Raise named amount) events)
move_count setup (said.BringIn named ∷ events) = omega (arith, move_count setup events, count_by-cons is_move_event (said.BringIn named) events)
move_count setup (said.Hole seat cards ∷ events) = omega (arith, move_count setup events, count_by-cons is_move_event (said.Hole seat cards) events)
move_count setup (said.Board cards ∷ events) = omega (arith, move_count setup events, count_by-cons is_move_event (said.Board cards) events)
move_count setup (said.Discard seat cards ∷ events) = omega (arith, move_count setup events, count_by-cons is_move_event (said.Discard seat cards) events)
move_count setup (said.Show seat cards ∷ events) = omega (arith, move_count setup events, count_by-cons is_move_event (said.Show seat cards) events)
move_count setup (said.Muck seat ∷ events) = omega (arith, move_count setup events, count_by-cons is_move_event (said.Muck seat) events)

-- a trace is tidy if the moves of its script are within the limit
pub tidy_within : (setup : Setup) (rules : Rules) (script : List Said) → IsPlayed setup rules script → count_by is_move_event script ≤ MOST_MOVES → IsTidy (core_after setup script)
tidy_within setup rules script played few =
    tidy_trace setup rules script played (omega (arith, few, move_count setup (reverse script), count_reversed is_move_event script))
