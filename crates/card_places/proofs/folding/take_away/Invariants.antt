use Rattle.std.proofs.Common.{◌≡◌, ◌++◌, map, take, drop}
use Rattle.play_event.specs.Places.{folded_place}
use Rattle.card_places.specs.Placed.{placed}
use Rattle.card_places.specs.Plain.{place_of}
use Rattle.card_places.proofs.folding.take_away.Given as goal

abbrev pub invariant-loop-index : goal.invariant-loop-index
invariant-loop-index l =
    let fold = map (folded_place l.seat.number l.fn.places.count) in
    (l.places.count ≡ l.fn.places.count)
    × (map place_of (take l.index l.places.rows) ++ fold (map place_of (drop l.index (take l.fn.places.count l.places.rows))) ≡ fold (placed l.fn.places))
