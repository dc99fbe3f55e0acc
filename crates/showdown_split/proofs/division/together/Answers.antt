-- The sums together are the sum of both rows.
use Rattle.std.proofs.Common.{ℕ, ap, sym, ◌∙◌, ◌+◌, sum_by, arith}
use Rattle.card_set.proofs.Sums.{sum_by-plus}
use Rattle.chip_ledger.specs.Seat.{seats_of}
use Rattle.chip_ledger.specs.SeatRow.{amount_of}
use Rattle.chip_ledger.proofs.Seats.{sum-seats}
use Rattle.showdown_split.proofs.division.together.Goals as goal

pub returns-clause-total : goal.returns-clause-total
returns-clause-total c =
    let first = c.args.first.now in
    let second = c.args.second.now in
    let row = c.loop-index.row in
    ap (λ (n : ℕ). sum_by (amount_of row) (seats_of n)) c.loop-index.invariant.0
    ∙ sum-seats (amount_of row) (λ n. amount_of first n + amount_of second n) first.seats
    (λ n low high. c.loop-index.invariant.1 n low (omega arith))
    ∙ sum_by-plus (amount_of first) (amount_of second) (seats_of first.seats)
    ∙ ap (λ (n : ℕ). sum_by (amount_of first) (seats_of first.seats) + sum_by (amount_of second) (seats_of n)) (sym c.requires.seats)
