use Rattle.std.proofs.Common.{◌≡◌, ◌≤◌, map, take, count_by}
use Rattle.play_event.specs.NameMatching as naming
use Rattle.card_places.specs.Plain.{place_of}
use Rattle.card_places.proofs.showing.held_down.Given as goal

abbrev pub invariant-loop-row : goal.invariant-loop-row
invariant-loop-row l = (l.count ≡ count_by (naming.is_held_down l.table.code l.seat.number) (map place_of (take l.row-index l.rows))) × (l.count ≤ l.row-index)
