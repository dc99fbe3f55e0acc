use Rattle.std.proofs.Common.{◌≡◌, map, drop, filter}
use Rattle.std.specs.List.{list_any}
use Rattle.card_set.specs.Row.{cards_of}
use Rattle.play_event.specs.CardReasons as reasons
use Rattle.play_event.specs.NameMatching as naming
use Rattle.card_places.specs.Plain.{place_of}
use Rattle.card_places.proofs.naming.omits_known_card.Given as goal

abbrev pub invariant-loop-row : goal.invariant-loop-row
invariant-loop-row l =
    list_any (λ place. reasons.is_left_out (cards_of l.search.names) place.slot) (filter (naming.can_be_named l.table.code l.search.seat.number l.search.all) (map place_of (drop l.row-index l.rows))) ≡ list_any (λ place. reasons.is_left_out (cards_of l.search.names) place.slot) (filter (naming.can_be_named l.table.code l.search.seat.number l.search.all) (map place_of l.rows))
