-- The pots so far are added up.
use Rattle.std.proofs.Common.{◌≡◌, ◌≤◌, ◌*◌, ◌^◌, sum_by, take}
use Rattle.hand_canon.proofs.agreement.pot_total.Given as goal

abbrev pub invariant-loop-pot : goal.invariant-loop-pot
invariant-loop-pot l =
    (l.all ≡ sum_by (λ pot. pot.chips) (take l.pot-index l.pot-items))
    × (l.all ≤ l.pot-index * 2 ^ 64)
