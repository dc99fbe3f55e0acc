use Rattle.std.proofs.Common.{◌-◌}
use Rattle.hand_counts.proofs.dealing.+count_hands.Given as goal

-- the cards that the hand is missing
abbrev pub decreases-count_hands : goal.decreases-count_hands
decreases-count_hands g l = g.O.HandOrder.HELD - l.hand.len
