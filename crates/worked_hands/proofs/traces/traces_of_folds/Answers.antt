-- The trace is computed; each other one differs in a number, a card or a move.
use Rattle.std.specs.Prelude.{◌≡◌, ℕ, filter, length, sum_by}
use Rattle.std.proofs.Common.{ap, arith, lit≤}
use Rattle.card_set.specs.Known.{hides_card}
use Rattle.card_set.specs.Spelling.{slot_spelled, rank_lettered, suit_lettered}
use Rattle.chip_ledger.specs.Pots.{after_return, levels, layers, pots_at, pots_of}
use Rattle.play_event.specs.Due.{turn}
use Rattle.play_event.specs.Reasons.{why}
use Rattle.play_event.specs.Scripts.{with_event}
use Rattle.worked_hands.proofs.Steal.{steal_is, steal_legal}
use Rattle.worked_hands.proofs.traces.traces_of_folds.Goals as goal

pub returns-clause-the_hand_is_legal : goal.returns-clause-the_hand_is_legal
returns-clause-the_hand_is_legal c = steal_legal

pub returns-clause-its_trace : goal.returns-clause-its_trace
returns-clause-its_trace c = steal_is

pub returns-clause-a_chip_more_for_p3 : goal.returns-clause-a_chip_more_for_p3
unfolding turn why with_event slot_spelled rank_lettered suit_lettered after_return levels layers pots_at pots_of
returns-clause-a_chip_more_for_p3 c = λ is. let same : ◌≡◌ {A = ℕ} 97 98 = is.shares.finishes 2 (lit≤ tt) (lit≤ tt) in omega (arith, same)

pub returns-clause-returned_chips_in_the_pot : goal.returns-clause-returned_chips_in_the_pot
unfolding turn why with_event slot_spelled rank_lettered suit_lettered after_return levels layers pots_at pots_of
returns-clause-returned_chips_in_the_pot c = λ is. let same : ◌≡◌ {A = ℕ} 9 5 = ap (λ core. sum_by (λ pot. pot.chips) core.pots) is.core in omega (arith, same)

pub returns-clause-cards_that_nobody_named : goal.returns-clause-cards_that_nobody_named
unfolding turn why with_event slot_spelled rank_lettered suit_lettered after_return levels layers pots_at pots_of
returns-clause-cards_that_nobody_named c = λ is. let same : ◌≡◌ {A = ℕ} 0 2 = ap (λ core. length (filter (λ place. hides_card place.slot) core.places)) is.core in omega (arith, same)

pub returns-clause-a_fold_left_out : goal.returns-clause-a_fold_left_out
unfolding turn why with_event slot_spelled rank_lettered suit_lettered after_return levels layers pots_at pots_of
returns-clause-a_fold_left_out c = λ is. let same : ◌≡◌ {A = ℕ} 2 3 = ap (λ core. length core.moves) is.core in omega (arith, same)
