use Rattle.std.proofs.Common.{refl}
use Rattle.card_set.specs.Spelling.{rank_lettered, slot_spelled, suit_lettered}
use Rattle.worked_hands.proofs.setup_differences.differing_setups.Goals as goal

pub returns-clause-the_same : goal.returns-clause-the_same
unfolding slot_spelled rank_lettered suit_lettered
returns-clause-the_same c = λ hand. refl
