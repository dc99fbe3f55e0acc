use Rattle.std.proofs.Common.{◌≡◌, take}
use Rattle.card_set.specs.Row.{cards_of}
use Rattle.library_table.proofs.cards.last_cards.Given as goal

-- the cards so far
abbrev pub invariant-loop-card : goal.invariant-loop-card
invariant-loop-card l = cards_of l.last ≡ take l.card-index l.card-items
