use Rattle.std.proofs.Common.{◌≡◌, map, take}
use Rattle.card_set.specs.Row.{cards_of}
use Rattle.play_event.specs.PackedReading.{card_of}
use Rattle.play_event.proofs.unpacking.read_cards.Given as goal

-- the row has the cards of the numbers so far
abbrev pub invariant-loop-number : goal.invariant-loop-number
invariant-loop-number l = record {
  cards : cards_of l.row ≡ map card_of (take l.number-index l.numbers);
  len : l.row.len ≡ l.number-index;
}
