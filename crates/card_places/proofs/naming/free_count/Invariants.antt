use Rattle.std.proofs.Common.{◌≡◌, ◌≤◌, map, take, filter, count_by}
use Rattle.play_event.specs.NameMatching as naming
use Rattle.card_set.specs.Known as known
use Rattle.card_places.specs.Plain.{place_of}
use Rattle.card_places.proofs.naming.free_count.Given as goal

abbrev pub invariant-loop-row : goal.invariant-loop-row
invariant-loop-row l = (l.count ≡ count_by (λ place. known.hides_card place.slot) (filter (naming.can_be_named l.table.code l.search.seat.number l.search.all) (map place_of (take l.row-index l.rows)))) × (l.count ≤ l.row-index)
