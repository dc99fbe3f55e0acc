use Rattle.std.proofs.Common.{◌+◌, ◌*◌, ◌^◌, length}
use Rattle.badugi_rank.proofs.rainbow.+best_taken.Given as goal

-- the suits that are left, and then the ranks
abbrev pub decreases-best_taken : goal.decreases-best_taken
decreases-best_taken l = length l.others.now * 2 ^ 16 + l.left
