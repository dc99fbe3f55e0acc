use Rattle.std.proofs.Common.{◌≡◌, ◌++◌, ◌-◌, replicate}
use Rattle.card_set.specs.declared.card.Slot.TheVariants as slots
use Rattle.card_set.specs.Row.{slots_of}
use Rattle.ohh_rounds.specs.Play.{hole_cards}
use Rattle.ohh_rounds.proofs.play.filled.Given as goal

-- the cards so far, and as many unknown ones as are left, are all of them
abbrev pub invariant-loop-index : goal.invariant-loop-index
invariant-loop-index l = record {
  all : slots_of l.all ++ replicate (l.count - l._index) slots.Unknown ≡ hole_cards l.count (slots_of l.fn.cards);
  few : l.all.len ≡ l._index;
}
