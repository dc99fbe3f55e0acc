use Rattle.std.proofs.Common.{◌≡◌, map, drop, List}
use Rattle.std.specs.List.{list_any}
use Rattle.play_event.specs.Places.{Place}
use Rattle.play_event.specs.Taken.{is_misplaced, newly_known}
use Rattle.card_places.specs.Plain.{place_of}
use Rattle.card_places.specs.Searches.{search_from, searched}
use Rattle.card_places.proofs.misplacing.is_misplacing.Given as goal

abbrev pub invariant-loop-row : goal.invariant-loop-row
invariant-loop-row l =
    let code = l.table.code in
    let olds : List Place = map place_of l.rows in
    let news : List Place = searched code l.search olds in
    let left : List Place = map place_of (drop l.row-index l.rows) in
    list_any (is_misplaced code news) (newly_known left (search_from code l.search l.taken l.blanks left)) ≡ list_any (is_misplaced code news) (newly_known olds news)
