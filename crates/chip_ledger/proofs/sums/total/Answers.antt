-- The next amount is that of the seat with the next number.
use Rattle.std.proofs.Common.{arith}
use Rattle.chip_ledger.specs.SeatRow.{amount_of}
use Rattle.chip_ledger.proofs.Seats.{sum_of_seats_more}
use Rattle.chip_ledger.proofs.sums.total.Goals as goal

pub loop-i-preserved : goal.loop-i-preserved
loop-i-preserved c =
    let more = sum_of_seats_more (amount_of c.args.row.now) c.loop-i.i in
    let most = c.args.row.now.bounded c.loop-i.i in
    grind arith
