use Rattle.std.proofs.Common.{◌≡◌, ◌≤◌, ◌*◌, sum_by, take}
use Rattle.chip_ledger.specs.SeatRow.{amount_of}
use Rattle.hand_canon.proofs.agreement.win.Given as goal
use Rattle.chip_ledger.specs.declared.seat_row.TheConstants.{MOST_AMOUNT}

-- the shares so far are added up
abbrev pub invariant-loop-share : goal.invariant-loop-share
invariant-loop-share l =
    (l.all ≡ sum_by (λ share. amount_of share l.seat.number) (take l.share-index l.share-items))
    × (l.all ≤ l.share-index * MOST_AMOUNT)
