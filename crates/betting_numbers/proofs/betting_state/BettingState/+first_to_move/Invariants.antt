use Rattle.betting_numbers.proofs.betting_state.BettingState.+first_to_move.Given as goal

abbrev pub decreases-first_to_move : goal.decreases-first_to_move
decreases-first_to_move l = l.count
