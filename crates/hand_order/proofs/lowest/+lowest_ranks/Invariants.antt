use Rattle.hand_order.proofs.lowest.+lowest_ranks.Given as goal

-- the heights that are left
abbrev pub decreases-lowest_ranks : goal.decreases-lowest_ranks
decreases-lowest_ranks l = l.heights
