use Rattle.std.proofs.Common.{◌≡◌, ◌≤◌, ◌*◌, sum_by, take}
use Rattle.hand_canon.proofs.agreement.differing_total.Given as goal
use Rattle.chip_ledger.specs.declared.seat_row.TheConstants.{MOST_AMOUNT}

-- the pots so far are added up
abbrev pub invariant-loop-pot : goal.invariant-loop-pot
invariant-loop-pot l =
    (l.all ≡ sum_by (λ pot. pot.chips) (take l.pot-index l.pot-items))
    × (l.all ≤ l.pot-index * MOST_AMOUNT)
