use Rattle.std.proofs.Common.{◌≡◌, ◌++◌, map, drop, take}
use Rattle.card_places.specs.Placed.{placed}
use Rattle.card_places.specs.Plain.{place_of}
use Rattle.card_places.specs.Searches.{search_from, searched}
use Rattle.card_places.proofs.search.apply_names.Given as goal

abbrev pub invariant-loop-index : goal.invariant-loop-index
invariant-loop-index l =
    (l.places.count ≡ l.fn.places.count)
    × (map place_of (take l.index l.places.rows) ++ search_from l.table.code l.search l.taken l.blanks (map place_of (drop l.index (take l.fn.places.count l.places.rows))) ≡ searched l.table.code l.search (placed l.fn.places))
