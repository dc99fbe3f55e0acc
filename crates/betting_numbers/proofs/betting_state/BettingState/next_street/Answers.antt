-- A new street begins with a current bet of 0.
use Rattle.std.proofs.Common.{sym}
use Rattle.chip_ledger.specs.SeatRow.{amount_of}
use Rattle.betting_numbers.proofs.NextStreet.{zero_greatest}
use Rattle.betting_numbers.proofs.betting_state.BettingState.next_street.Goals as goal

pub invariant_of-self-clause-current_bet_is : goal.invariant_of-self-clause-current_bet_is
invariant_of-self-clause-current_bet_is c = sym (zero_greatest (amount_of c.new-self.result) 1 c.args.self.now.setup.stacks.seats c.new-self.ensures.all_zero)
