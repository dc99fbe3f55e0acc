use Rattle.std.proofs.Common.{◌≡◌, ◌&&◌, ◌==◌, not, map, drop, Bool}
use Rattle.std.specs.List.{list_any}
use Rattle.play_event.specs.Places.{Place}
use Rattle.play_event.specs.Taken.{is_clash}
use Rattle.card_places.specs.Plain.{place_of}
use Rattle.card_places.specs.Searches.{search_from, searched}
use Rattle.card_places.proofs.misplacing.clashes.Given as goal

abbrev pub invariant-loop-row : goal.invariant-loop-row
invariant-loop-row l =
    let clash : Place → Bool = λ other. not (other.number == l.card.number) && is_clash (place_of l.card) other in
    list_any clash (search_from l.table.code l.search l.taken l.blanks (map place_of (drop l.row-index l.rows))) ≡ list_any clash (searched l.table.code l.search (map place_of l.rows))
