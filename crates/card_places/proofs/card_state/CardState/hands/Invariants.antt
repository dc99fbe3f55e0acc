use Rattle.std.proofs.Common.{◌≡◌, ◌≤◌, ℕ, Some, map, take}
use Rattle.play_event.specs.SeatSlots.{slots_of_hand}
use Rattle.play_event.specs.Held.{held_slots}
use Rattle.card_places.specs.Plain.{place_of}
use Rattle.card_places.proofs.card_state.CardState.hands.Given as goal

abbrev pub invariant-loop-card : goal.invariant-loop-card
invariant-loop-card l =
    (l.row.seats ≡ l.self.seats)
    × ((n : ℕ) → 1 ≤ n → n ≤ l.self.seats → slots_of_hand l.row n ≡ held_slots (Some n) (map place_of (take l.card-index l.card-items)))
