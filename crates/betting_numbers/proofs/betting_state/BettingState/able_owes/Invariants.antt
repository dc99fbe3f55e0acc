use Rattle.std.proofs.Common.{◌≡◌, false, ◌&&◌, nat_lt}
use Rattle.std.specs.List.{list_any}
use Rattle.chip_ledger.specs.Seat.{seats_of}
use Rattle.betting_numbers.specs.Seen.{can_act_seen, to_call_seen}
use Rattle.betting_numbers.proofs.betting_state.BettingState.able_owes.Given as goal

abbrev pub invariant-loop-index : goal.invariant-loop-index
invariant-loop-index l = false ≡ list_any (λ seat. can_act_seen l.self seat && nat_lt 0 (to_call_seen l.self seat)) (seats_of l.index)
