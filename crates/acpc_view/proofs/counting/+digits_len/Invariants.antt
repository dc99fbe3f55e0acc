-- The number gets smaller.
use Rattle.acpc_view.proofs.counting.+digits_len.Given as goal

abbrev pub decreases-digits_len : goal.decreases-digits_len
decreases-digits_len l = l.number
