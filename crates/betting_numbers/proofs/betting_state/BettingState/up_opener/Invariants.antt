use Rattle.std.proofs.Common.{◌≡◌, ◌≤◌, ◌+◌, ◌-◌, IfSome}
use Rattle.chip_ledger.specs.SeatsSaid.{seat_said}
use Rattle.betting_numbers.proofs.Behind.{able_above, able_from}
use Rattle.betting_numbers.proofs.Leading.{IsWalked}
use Rattle.betting_numbers.proofs.betting_state.BettingState.up_opener.Given as goal

abbrev pub invariant-loop-index : goal.invariant-loop-index
invariant-loop-index l =
    let seats = l.self.setup.stacks.seats in
    record {
      walked : IsWalked l.fn.opener l.self l.fn.up (seats + 1 - l.index) l.index l.lead (seat_said l.first);
      far : seats ≤ l.lead + l.index;
      lead_first : 1 ≤ l.lead;
      lead_in : l.lead ≤ seats;
      first_in : IfSome l.first (λ seat. seat.number ≤ seats);
      nearest_is : seat_said l.nearest ≡ able_from l.self (seats + 1 - l.index) l.index;
      behind_is : IfSome l.first (λ seat. seat_said l.behind ≡ able_above l.self seat.number);
      nearest_in : IfSome l.nearest (λ seat. seat.number ≤ seats);
      behind_in : IfSome l.behind (λ seat. seat.number ≤ seats);
    }
