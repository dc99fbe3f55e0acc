use Rattle.std.proofs.Common.{◌≡◌, filter, map, drop}
use Rattle.card_set.specs.Row.{cards_of}
use Rattle.play_event.specs.NameMatching as naming
use Rattle.card_places.specs.Plain.{place_of}
use Rattle.card_places.proofs.search.other_names.Given as goal

abbrev pub invariant-loop-card : goal.invariant-loop-card
invariant-loop-card l =
    let covers = naming.can_be_named l.table.code l.seat.number l.all in
    naming.unmatched_names (filter covers (map place_of (drop l.card-index l.rows))) (cards_of l.others) ≡ naming.unmatched_names (filter covers (map place_of l.rows)) (cards_of l.names)
