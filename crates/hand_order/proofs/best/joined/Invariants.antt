use Rattle.std.proofs.Common.{◌≡◌, ◌++◌, take}
use Rattle.card_set.specs.Row.{cards_of}
use Rattle.hand_order.proofs.best.joined.Given as goal

-- the cards of the second row so far come after those of the first
abbrev pub invariant-loop-card : goal.invariant-loop-card
invariant-loop-card l = cards_of l.row ≡ cards_of l.first ++ take l.card-index l.card-items
