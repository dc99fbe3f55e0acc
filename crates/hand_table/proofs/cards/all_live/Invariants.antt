use Rattle.std.proofs.Common.{◌≡◌}
use Rattle.hand_table.proofs.cards.all_live.Given as goal

abbrev pub invariant-loop-index : goal.invariant-loop-index
invariant-loop-index l = l.live.seats ≡ l.seats
