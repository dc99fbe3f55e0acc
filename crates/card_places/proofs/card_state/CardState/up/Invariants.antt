use Rattle.std.proofs.Common.{◌≡◌, ◌≤◌, ℕ, map, take}
use Rattle.play_event.specs.Places.{up_slots}
use Rattle.play_event.specs.SeatSlots.{ups_of}
use Rattle.card_places.specs.Plain.{place_of}
use Rattle.card_places.proofs.card_state.CardState.up.Given as goal

abbrev pub invariant-loop-card : goal.invariant-loop-card
invariant-loop-card l =
    (l.row.seats ≡ l.self.seats)
    × ((n : ℕ) → 1 ≤ n → n ≤ l.self.seats → ups_of l.row n ≡ up_slots l.self.table.code (map place_of (take l.card-index l.card-items)) n)
