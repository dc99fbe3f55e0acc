use Rattle.std.proofs.Common.{◌≡◌, ◌≤◌, ◌+◌, ◌*◌, ◌==◌, nat_lt, List, map, take, count_by}
use Rattle.play_event.specs.Places.{Place}
use Rattle.card_places.specs.Plain.{place_of}
use Rattle.card_places.proofs.taken.count_drawn.Given as goal

abbrev pub invariant-loop-row : goal.invariant-loop-row
invariant-loop-row l =
    let seen : List Place = map place_of (take l.row-index l.rows) in
    (l.count ≡ count_by (λ place. nat_lt place.street l.street) seen + count_by (λ place. place.discarded == l.street) seen)
    × (l.count ≤ 2 * l.row-index)
