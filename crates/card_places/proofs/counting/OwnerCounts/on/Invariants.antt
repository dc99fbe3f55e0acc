use Rattle.std.proofs.Common.{◌≡◌, length, map, take}
use Rattle.card_places.specs.Counted.{AreCounts}
use Rattle.card_places.specs.Plain.{place_of}
use Rattle.card_places.proofs.counting.OwnerCounts.on.Given as goal

abbrev pub invariant-loop-card : goal.invariant-loop-card
invariant-loop-card l =
    (length l.numbers ≡ 11)
    × AreCounts l.numbers l.street (map place_of (take l.card-index l.card-items))
