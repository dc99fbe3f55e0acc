use Rattle.std.proofs.Common.{◌-◌}
use Rattle.hand_counts.proofs.speed.+score_hands.Given as goal

-- the cards that the hand is missing
abbrev pub decreases-score_hands : goal.decreases-score_hands
decreases-score_hands g l = l.cards - l.hand.len
