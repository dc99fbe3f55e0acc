use Rattle.std.proofs.Common.{◌-◌, ◌∙◌, nat_lt, sym, ap, arith}
use Rattle.std.specs.List.{list_any}
use Rattle.chip_ledger.specs.Seat.{seats_of}
use Rattle.chip_ledger.specs.SeatRow.{amount_of}
use Rattle.phh_reading.proofs.NoRakes.{none_above}
use Rattle.phh_reading.proofs.setup.read_setup.Goals as goal

pub returns-clause-valid : goal.returns-clause-valid
returns-clause-valid c =
    let antes = c.in_ok-antes.antes in
    record {
      same_antes = c.in_ok-antes.ensures.held.seats;
      same_blinds = c.in_ok-blinds.ensures.seats ∙ c.players.ensures;
      few_seats = omega (arith, c.in_ok-stacks.ensures.seats, c.most_seats.ensures);
      stacks = λ seat first last. c.in_ok-stacks.ensures.sizes (seat - 1) (omega (arith, first, last));
      antes = λ seat. c.in_ok-antes.ensures.held.each (seat - 1);
      blinds = λ seat. c.in_ok-blinds.ensures.most (seat - 1);
      bring_in = c.in_ok-sizes.ensures.bring_in;
      small_bet = c.in_ok-sizes.ensures.small_bet;
      big_bet = c.in_ok-sizes.ensures.big_bet;
      least_bet = c.in_ok-sizes.ensures.min_bet;
      dead_antes = λ dead. ap (λ seats. list_any (λ seat. nat_lt 0 (amount_of antes seat)) (seats_of seats)) (sym c.in_ok-antes.ensures.held.seats) ∙ c.has_dead_antes.ensures.some dead;
      heads_up = λ two. c.in_ok-blinds.ensures.heads_up (c.players.ensures ∙ two);
      stud = λ is seat. c.in_ok-blinds.ensures.stud is (seat - 1);
      rakes = λ pot. none_above c.none.result c.none.ensures pot;
    }
