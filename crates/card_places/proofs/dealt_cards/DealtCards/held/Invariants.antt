use Rattle.std.proofs.Common.{◌≡◌, ◌≤◌, map, take, count_by}
use Rattle.play_event.specs.Held.{is_held}
use Rattle.card_places.specs.Plain.{place_of}
use Rattle.card_places.proofs.dealt_cards.DealtCards.held.Given as goal
use Rattle.chip_ledger.specs.SeatsSaid.{seat_said}

abbrev pub invariant-loop-card : goal.invariant-loop-card
invariant-loop-card l = (l.count ≡ count_by (is_held (seat_said l.owner)) (map place_of (take l.card-index l.card-items))) × (l.count ≤ l.card-index)
