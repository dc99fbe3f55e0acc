-- The hand is added to the first of the sums.
use Rattle.std.proofs.Common.{◌≡◌}
use Rattle.printed_hands.specs.Games.{with_hand}
use Rattle.printed_hands.specs.Report.{hand_of}
use Rattle.printed_hands.proofs.Counted.{changed}
use Rattle.printed_hands.proofs.games.add_to_sums.Given as goal

abbrev pub invariant-loop-index : goal.invariant-loop-index
invariant-loop-index l = l.sums.items ≡ changed (with_hand (hand_of l.play)) l.initial.sums.items l.index
