use Rattle.std.proofs.Common.{◌≡◌, None, map, take, filter, count_by}
use Rattle.card_set.specs.Row.{slots_of}
use Rattle.play_event.specs.Held.{is_held}
use Rattle.card_places.specs.Plain.{place_of}
use Rattle.card_places.proofs.card_state.CardState.board_slots.Given as goal

abbrev pub invariant-loop-card : goal.invariant-loop-card
invariant-loop-card l =
    (slots_of l.slots ≡ map (λ place. place.slot) (filter (is_held None) (map place_of (take l.card-index l.card-items))))
    × (l.slots.len ≡ count_by (is_held None) (map place_of (take l.card-index l.card-items)))
