use Rattle.std.proofs.Common.{◌≡◌, ◌+◌, ◌++◌, drop}
use Rattle.card_set.specs.Row.{slots_of}
use Rattle.ohh_rounds.proofs.cards.joined.Given as goal

-- the cards so far and those that are left are all of them
abbrev pub invariant-loop-slot : goal.invariant-loop-slot
invariant-loop-slot l = record {
  all : slots_of l.all ++ drop l.slot-index (slots_of l.fn.more) ≡ slots_of l.fn.cards ++ slots_of l.fn.more;
  few : l.all.len ≡ l.fn.cards.len + l.slot-index;
}
