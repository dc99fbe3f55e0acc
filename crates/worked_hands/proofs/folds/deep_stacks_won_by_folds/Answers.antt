-- Each clause is computed.
use Rattle.std.proofs.Common.{refl}
use Rattle.card_set.specs.Spelling.{slot_spelled, rank_lettered, suit_lettered}
use Rattle.chip_ledger.specs.Pots.{pots_of, after_return, levels, layers, pots_at}
use Rattle.play_event.specs.Due.{turn}
use Rattle.play_event.specs.Reasons.{why}
use Rattle.play_event.specs.Scripts.{with_event}
use Rattle.worked_hands.proofs.folds.deep_stacks_won_by_folds.Goals as goal

pub returns-clause-stack_of_p1 : goal.returns-clause-stack_of_p1
unfolding turn why with_event slot_spelled rank_lettered suit_lettered pots_of after_return levels layers pots_at
returns-clause-stack_of_p1 c = refl

pub returns-clause-stack_of_p2 : goal.returns-clause-stack_of_p2
unfolding turn why with_event slot_spelled rank_lettered suit_lettered pots_of after_return levels layers pots_at
returns-clause-stack_of_p2 c = refl

pub returns-clause-stack_of_p3 : goal.returns-clause-stack_of_p3
unfolding turn why with_event slot_spelled rank_lettered suit_lettered pots_of after_return levels layers pots_at
returns-clause-stack_of_p3 c = refl
