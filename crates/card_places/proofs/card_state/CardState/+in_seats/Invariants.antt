use Rattle.card_places.proofs.card_state.CardState.+in_seats.Given as goal

abbrev pub decreases-in_seats : goal.decreases-in_seats
decreases-in_seats l = l.count
