-- What is stored of a seat while the steps are read.
use Rattle.std.specs.Prelude.{◌≡◌, ℕ, ◌-◌, ◌≤◌, List, length, Some, slice_get}
use Rattle.card_set.specs.Row.{slots_of}
use Rattle.ohh_rounds.specs.declared.seat_so_far.SeatSoFar.{SeatSoFar}
use Rattle.ohh_rounds.specs.Steps.{PlainStep, dealt_to, first_deal, is_folded}

-- what is stored of a seat agrees with the steps
pub record IsSeatAfter (seat : ℕ) (steps : List PlainStep) (kept : SeatSoFar) : Type 0 where
  pub folded : kept.folded ≡ is_folded seat steps
  pub cards : slots_of kept.cards ≡ dealt_to seat steps
  pub first_deal : kept.first_deal ≡ first_deal seat steps

-- what is stored of ten seats agrees with the steps
pub record AreSeatsAfter (steps : List PlainStep) (seats : List SeatSoFar) : Type 0 where
  pub ten : length seats ≡ 10
  pub each : (seat : ℕ) → 1 ≤ seat → seat ≤ 10 → (kept : SeatSoFar)
      → slice_get seats (seat - 1) ≡ Some kept → IsSeatAfter seat steps kept
