-- How one more step counts.
use Rattle.std.proofs.Common.{◌≡◌, ℕ, ◌+◌, ◌≤◌, Bool, true, false, not, cond, List, arith}
use Rattle.play_event.specs.declared.hand_limits.TheConstants.{MOST_MOVES, MOST_OTHER_EVENTS}
use Rattle.play_event.specs.PlayedScript.{is_move_event}
use Rattle.first_fault.specs.declared.limits.TheConstants.{MOST_FILE_MOVES}
use Rattle.ohh_rounds.specs.Steps.{HasRoom, IsWithin, PlainActionEffect, PlainStep, Posted, Dealt, Happened, Passed, is_move_effect, is_other_effect, moves_in, others_in}

-- the counts of a hand with this many seats, after this many moves of the file, exceed no limit
pub record AreFew (seats file_moves moves others : ℕ) : Type 0 where
  pub moves_few : moves ≤ MOST_MOVES
  pub file_few : file_moves + moves ≤ MOST_FILE_MOVES
  pub others_few : seats + others ≤ MOST_OTHER_EVENTS

few_after : (seats file_moves moves others : ℕ) (moving : Bool) (earlier : List PlainStep) → moves ≡ moves_in earlier → others ≡ others_in earlier → HasRoom seats file_moves moving earlier → AreFew seats file_moves moves others → AreFew seats file_moves (moves + cond moving 1 0) (others + cond (not moving) 1 0)
few_after seats file_moves moves others true earlier are_moves are_others room few = record { moves_few = omega (arith, are_moves, room.0); file_few = omega (arith, are_moves, room.1); others_few = omega (arith, few.others_few) }
few_after seats file_moves moves others false earlier are_moves are_others room few = record { moves_few = omega (arith, few.moves_few); file_few = omega (arith, few.file_few); others_few = omega (arith, are_others, room) }

none_after : (seats file_moves moves others : ℕ) → AreFew seats file_moves moves others → AreFew seats file_moves (moves + 0) (others + 0)
none_after seats file_moves moves others few = record { moves_few = omega (arith, few.moves_few); file_few = omega (arith, few.file_few); others_few = omega (arith, few.others_few) }

-- one more step exceeds no limit, if it may not
pub counts_stay_few : (seats file_moves moves others : ℕ) (earlier : List PlainStep) (effect : PlainActionEffect) → moves ≡ moves_in earlier → others ≡ others_in earlier → IsWithin seats file_moves earlier effect → AreFew seats file_moves moves others → AreFew seats file_moves (moves + cond (is_move_effect effect) 1 0) (others + cond (is_other_effect effect) 1 0)
counts_stay_few seats file_moves moves others earlier (Happened event) are_moves are_others within few = few_after seats file_moves moves others (is_move_event event) earlier are_moves are_others within few
counts_stay_few seats file_moves moves others earlier (Posted post) are_moves are_others within few = none_after seats file_moves moves others few
counts_stay_few seats file_moves moves others earlier (Dealt seat slots) are_moves are_others within few = none_after seats file_moves moves others few
counts_stay_few seats file_moves moves others earlier Passed are_moves are_others within few = none_after seats file_moves moves others few
