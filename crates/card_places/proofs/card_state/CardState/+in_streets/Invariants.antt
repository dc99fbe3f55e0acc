use Rattle.card_places.proofs.card_state.CardState.+in_streets.Given as goal

abbrev pub decreases-in_streets : goal.decreases-in_streets
decreases-in_streets l = l.count
