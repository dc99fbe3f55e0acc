use Rattle.std.proofs.Common.{◌-◌, arith, subst, map}
use Rattle.ohh_rounds.specs.StoredSeats.{IsSeatAfter}
use Rattle.ohh_rounds.specs.Steps.{plain_step}
use Rattle.ohh_rounds.specs.declared.seat_so_far.SeatSoFar.{SeatSoFar}
use Rattle.ohh_rounds.proofs.rounds_so_far.RoundsSoFar.seat.Goals as goal
use Rattle.card_set.proofs.Entries.{at_index}

pub returns : goal.returns
returns c =
    let seen = c.args.self.now in
    let seat = c.args.seat in
    subst (λ (kept : SeatSoFar). IsSeatAfter seat.number (map plain_step seen.steps.items) kept) c.index-self-seat.is
    (seen.seats_are.each seat.number seat.first seat.last c.index-self-seat.result (at_index seen.seats (seat.number - 1) c.index-self-seat.result (omega (arith, seen.seats_are.ten, seat.first, seat.last)) c.index-self-seat.is))
