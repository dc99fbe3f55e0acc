use Rattle.std.proofs.Common.{◌≡◌, ◌++◌, length, map}
use Rattle.serde_json.specs.Data.{string}
use Rattle.serde_json.specs.View.{view}
use Rattle.card_set.specs.Spelling.{slot_spelling}
use Rattle.ohh_writing.proofs.trees.card_values.Given as goal

-- the trees so far and those of the cards to come are those of all cards
abbrev pub invariant-loop-rest : goal.invariant-loop-rest
invariant-loop-rest l = map view l.values.items ++ map (λ slot. string (slot_spelling slot)) l.rest ≡ map (λ slot. string (slot_spelling slot)) l.cards

abbrev pub decreases-loop-rest : goal.decreases-loop-rest
decreases-loop-rest l = length l.rest
