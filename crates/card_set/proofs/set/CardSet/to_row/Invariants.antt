use Rattle.std.proofs.Common.{◌≡◌, take, filter}
use Rattle.card_set.specs.CardSet.{every_card, is_in}
use Rattle.card_set.specs.Row.{cards_of}
use Rattle.card_set.proofs.set.CardSet.to_row.Given as goal

-- the row has the cards of the set so far
abbrev pub invariant-loop-index : goal.invariant-loop-index
invariant-loop-index l = cards_of l.row ≡ filter (is_in l.self) (take l.index every_card)
