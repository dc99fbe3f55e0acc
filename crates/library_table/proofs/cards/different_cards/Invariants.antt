use Rattle.card_set.specs.CardSet.{IsListing}
use Rattle.card_set.specs.Row.{cards_of}
use Rattle.library_table.proofs.cards.different_cards.Given as goal

-- the cards so far are those that were seen, each once
abbrev pub invariant-loop-slot : goal.invariant-loop-slot
invariant-loop-slot l = IsListing l.seen (cards_of l.row)
