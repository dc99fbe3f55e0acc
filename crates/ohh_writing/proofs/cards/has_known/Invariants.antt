use Rattle.std.proofs.Common.{◌≡◌, drop}
use Rattle.ohh_writing.specs.Actions.{has_known_card}
use Rattle.ohh_writing.proofs.cards.has_known.Given as goal

-- the cards that are left decide
abbrev pub invariant-loop-card : goal.invariant-loop-card
invariant-loop-card l = has_known_card (drop l.card-index l.cards) ≡ has_known_card l.cards
