-- The traces are computed; of the shown hands the one with the most points wins.
use Rattle.std.proofs.Common.{◌≡◌, inl, lit≤, refl}
use Rattle.card_set.specs.Ranks.{falling_heights, occurring, ranks_of, times}
use Rattle.card_set.specs.Spelling.{rank_lettered, slot_spelled, suit_lettered}
use Rattle.chip_ledger.specs.Pots.{after_return, layers, levels, pots_at, pots_of}
use Rattle.play_event.specs.Due.{turn}
use Rattle.play_event.specs.Reasons.{why}
use Rattle.play_event.specs.Scripts.{with_event}
use Rattle.std.specs.Prelude.{[], ◌∷◌}
use Rattle.std.proofs.lemmas.Bool.{and_parts}
use Rattle.hand_order.specs.Points.{greatest}
use Rattle.hand_order.specs.Digits.{with_digits}
use Rattle.hand_order.specs.Straights.{deciding_ranks, high_class}
use Rattle.low_rank.specs.DeuceSeven as deuce_seven
use Rattle.low_rank.specs.LowLaw.{lawful_deuce_seven}
use Rattle.hand_canon.specs.LegalHand.{showdown_in}
use Rattle.hand_canon.specs.TraceRows.{core_said}
use Rattle.worked_hands.specs.Scripts.{folded_draw, mixed_draw}
use Rattle.worked_hands.specs.PlaySetups.{three_in_single_draw}
use Rattle.worked_hands.specs.StreetTraces.{folded_trace, mixed_trace}
use Rattle.worked_hands.proofs.ByPoints.{by_points}
use Rattle.card_set.proofs.Numbers.{by_three}
use Rattle.card_set.proofs.Entries.{only}
use Rattle.worked_hands.proofs.Traced.{traced}
use Rattle.worked_hands.proofs.traces.traces_of_single_draws.Goals as goal

pub returns-clause-folded : goal.returns-clause-folded
unfolding turn why with_event slot_spelled rank_lettered suit_lettered after_return levels layers pots_at pots_of
returns-clause-folded c =
    traced three_in_single_draw folded_draw folded_trace refl record {
      shown = refl;
      mucked = refl;
      eligible = only (λ pot. pot.eligible.seats ≡ 3) _ refl;
      returned = refl;
      shares = only (λ share. share.seats ≡ 3) _ refl;
      finish = refl;
    } refl
    (record { shared = (inl (record { one = refl; all = by_three _ refl refl refl }), tt); finishes = by_three _ refl refl refl })

pub returns-clause-mixed : goal.returns-clause-mixed
unfolding turn why with_event slot_spelled rank_lettered suit_lettered after_return levels layers pots_at pots_of greatest falling_heights occurring ranks_of times deciding_ranks high_class with_digits
returns-clause-mixed c =
    traced three_in_single_draw mixed_draw mixed_trace refl record {
      shown = refl;
      mucked = refl;
      eligible = only (λ pot. pot.eligible.seats ≡ 3) _ refl;
      returned = refl;
      shares = only (λ share. share.seats ≡ 3) _ refl;
      finish = refl;
    } refl
    (record {
      shared = (
        by_points three_in_single_draw.code (showdown_in three_in_single_draw (core_said mixed_trace)) 5 deuce_seven.points lawful_deuce_seven _ _ 1 (1 ∷ 3 ∷ []) refl (lit≤ tt) refl (λ seat both. (and_parts _ _ both).1)
            (record { first = lit≤ tt; last = lit≤ tt; usable = refl; different = refl }, (record { first = lit≤ tt; last = lit≤ tt; usable = refl; different = refl }, tt))
            (by_three _ refl refl refl),
        tt,
      );
      finishes = by_three _ refl refl refl;
    })
