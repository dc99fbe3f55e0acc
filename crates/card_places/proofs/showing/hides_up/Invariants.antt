use Rattle.std.proofs.Common.{◌≡◌, map, drop}
use Rattle.std.specs.List.{list_any}
use Rattle.card_set.specs.Known as known
use Rattle.play_event.specs.Places as plain
use Rattle.card_places.specs.Plain.{place_of}
use Rattle.card_places.proofs.showing.hides_up.Given as goal

abbrev pub invariant-loop-row : goal.invariant-loop-row
invariant-loop-row l =
    list_any known.hides_card (plain.up_slots l.table.code (map place_of (drop l.row-index l.rows)) l.seat.number) ≡ list_any known.hides_card (plain.up_slots l.table.code (map place_of l.rows) l.seat.number)
