use Rattle.low_rank.proofs.razz.+lowest_free.Given as goal

-- the heights that are left
abbrev pub decreases-lowest_free : goal.decreases-lowest_free
decreases-lowest_free l = l.heights
