use Rattle.std.proofs.Common.{◌≤◌}
use Rattle.card_set.specs.Row.{cards_of}
use Rattle.hand_counts.specs.Dealt.{AreDealt}
use Rattle.hand_counts.proofs.dealing.hand_of.Given as goal

-- the cards so far were dealt in order, all before the next place
abbrev pub invariant-loop-slot : goal.invariant-loop-slot
invariant-loop-slot l = record {
  dealt : AreDealt l.from (cards_of l.hand);
  within : l.from ≤ 52;
}
