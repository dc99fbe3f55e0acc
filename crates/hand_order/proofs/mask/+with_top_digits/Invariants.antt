use Rattle.hand_order.proofs.mask.+with_top_digits.Given as goal

-- the digits that are left
abbrev pub decreases-with_top_digits : goal.decreases-with_top_digits
decreases-with_top_digits l = l.need
