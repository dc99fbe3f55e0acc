use Rattle.std.proofs.Common.{◌≡◌, take}
use Rattle.card_set.specs.declared.card.Card.{Card}
use Rattle.card_set.specs.CardSet.{is_in, is_one_of}
use Rattle.card_set.proofs.set.CardSet.of.Given as goal

-- the set has the cards so far
abbrev pub invariant-loop-card : goal.invariant-loop-card
invariant-loop-card l = (card : Card) → is_in l.set card ≡ is_one_of card (take l.card-index l.card-items)
