use Rattle.std.proofs.Common.{◌≡◌, ◌≤◌, ◌&&◌, ℕ, map, take}
use Rattle.std.specs.List.{list_any}
use Rattle.card_set.specs.Known.{hides_card}
use Rattle.chip_ledger.specs.LiveRow.{flag_of}
use Rattle.play_event.specs.Places.{is_held_by}
use Rattle.card_places.specs.Plain.{place_of}
use Rattle.card_places.proofs.card_state.CardState.unknown.Given as goal

abbrev pub invariant-loop-card : goal.invariant-loop-card
invariant-loop-card l =
    (l.row.seats ≡ l.self.seats)
    × ((n : ℕ) → 1 ≤ n → n ≤ l.self.seats → flag_of l.row n ≡ list_any (λ place. is_held_by n place && hides_card place.slot) (map place_of (take l.card-index l.card-items)))
