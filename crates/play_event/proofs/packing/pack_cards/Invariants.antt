use Rattle.std.proofs.Common.{◌≡◌, ◌∷◌, ◌++◌, length, map, take}
use Rattle.play_event.specs.PackedForm.{card_byte}
use Rattle.play_event.proofs.packing.pack_cards.Given as goal

-- the bytes of the cards so far come after their count
abbrev pub invariant-loop-card : goal.invariant-loop-card
invariant-loop-card l = l.packed ≡ l.fn.packed ++ length l.cards ∷ map card_byte (take l.card-index l.cards)
