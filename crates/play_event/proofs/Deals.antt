-- The cards of an owner on a street are dealt in at most one event.
use Rattle.std.proofs.Common.{ℕ, ◌≤◌, List, [], ◌∷◌, length, arith}
use Rattle.card_set.specs.declared.card.Slot.{Slot}
use Rattle.play_event.specs.CanonScript.{board_said, deal_said}

-- to a seat
pub one_deal : (seat : ℕ) (cards : List Slot) → length (deal_said seat cards) ≤ 1
one_deal seat [] = omega arith
one_deal seat (slot ∷ rest) = omega arith

-- to the board
pub one_board : (cards : List Slot) → length (board_said cards) ≤ 1
one_board [] = omega arith
one_board (slot ∷ rest) = omega arith
