-- The parts together are the chips.
use Rattle.std.proofs.Common.{ap, ◌∙◌, sum_by, arith}
use Rattle.chip_ledger.specs.LiveRow.{flag_of}
use Rattle.chip_ledger.specs.Seat.{seats_of}
use Rattle.chip_ledger.specs.SeatRow.{amount_of}
use Rattle.chip_ledger.proofs.Seats.{sum-seats}
use Rattle.variant_table.specs.Division.{divided}
use Rattle.showdown_split.proofs.Parts.{parts_total}
use Rattle.showdown_split.proofs.division.divide.Goals as goal

pub returns-clause-total : goal.returns-clause-total
returns-clause-total c =
    let seats = c.args.winners.now.seats in
    let row = c.loop-index.row in
    ap (λ n. sum_by (amount_of row) (seats_of n)) c.loop-index.invariant.0
    ∙ sum-seats (amount_of row) (divided seats (flag_of c.args.winners.now) c.args.chips) seats
    (λ n low high. c.loop-index.invariant.1 n low (omega arith))
    ∙ parts_total seats (flag_of c.args.winners.now) c.args.chips c.requires.some
