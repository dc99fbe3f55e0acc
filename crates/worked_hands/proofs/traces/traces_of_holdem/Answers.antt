-- The traces are computed; of the shown hands the one with the most points wins.
use Rattle.std.proofs.Common.{◌≡◌, lit≤, refl}
use Rattle.card_set.specs.Ranks.{falling_heights, occurring, ranks_of, times}
use Rattle.card_set.specs.Spelling.{rank_lettered, slot_spelled, suit_lettered}
use Rattle.card_set.specs.UpCards.{up_high_class}
use Rattle.chip_ledger.specs.Pots.{after_return, layers, levels, pots_at, pots_of}
use Rattle.play_event.specs.Due.{turn}
use Rattle.play_event.specs.Reasons.{why}
use Rattle.play_event.specs.Scripts.{with_event}
use Rattle.std.specs.Prelude.{[], ◌∷◌}
use Rattle.std.proofs.lemmas.Bool.{and_parts}
use Rattle.hand_order.specs.Points.{greatest}
use Rattle.hand_order.specs.Choices.{choices}
use Rattle.hand_order.specs.Digits.{with_digits}
use Rattle.hand_order.specs.Straights.{deciding_ranks, high_class}
use Rattle.high_rank.specs.High as high
use Rattle.high_rank.specs.HighLaw.{lawful_high}
use Rattle.hand_canon.specs.LegalHand.{showdown_in}
use Rattle.hand_canon.specs.TraceRows.{core_said}
use Rattle.worked_hands.specs.Setups.{antes_and_blinds, no_limit}
use Rattle.worked_hands.specs.ShowScripts.{early_shows, named_at_showdown}
use Rattle.worked_hands.specs.BoardTraces.{divided_trace, early_trace}
use Rattle.worked_hands.proofs.ByPoints.{by_points}
use Rattle.card_set.proofs.Numbers.{by_three}
use Rattle.card_set.proofs.Entries.{only}
use Rattle.worked_hands.proofs.Traced.{traced}
use Rattle.worked_hands.proofs.traces.traces_of_holdem.Goals as goal

pub returns-clause-early_shows : goal.returns-clause-early_shows
unfolding turn why with_event slot_spelled rank_lettered suit_lettered after_return levels layers pots_at pots_of up_high_class ranks_of occurring times falling_heights greatest choices deciding_ranks high_class with_digits
returns-clause-early_shows c =
    traced antes_and_blinds early_shows early_trace refl record {
      shown = refl;
      mucked = refl;
      eligible = only (λ pot. pot.eligible.seats ≡ 3) _ refl;
      returned = refl;
      shares = only (λ share. share.seats ≡ 3) _ refl;
      finish = refl;
    } refl
    (record {
      shared = (
        by_points antes_and_blinds.code (showdown_in antes_and_blinds (core_said early_trace)) 5 high.points lawful_high _ _ 1 (1 ∷ 3 ∷ []) refl (lit≤ tt) refl (λ seat both. (and_parts _ _ both).1)
            (record { first = lit≤ tt; last = lit≤ tt; usable = (refl, lit≤ tt, lit≤ tt); different = refl }, (record { first = lit≤ tt; last = lit≤ tt; usable = (refl, lit≤ tt, lit≤ tt); different = refl }, tt))
            (by_three _ refl refl refl),
        tt,
      );
      finishes = by_three _ refl refl refl;
    })

pub returns-clause-a_divided_pot : goal.returns-clause-a_divided_pot
unfolding turn why with_event slot_spelled rank_lettered suit_lettered after_return levels layers pots_at pots_of up_high_class ranks_of occurring times falling_heights greatest choices deciding_ranks high_class with_digits
returns-clause-a_divided_pot c =
    traced no_limit named_at_showdown divided_trace refl record {
      shown = refl;
      mucked = refl;
      eligible = only (λ pot. pot.eligible.seats ≡ 3) _ refl;
      returned = refl;
      shares = only (λ share. share.seats ≡ 3) _ refl;
      finish = refl;
    } refl
    (record {
      shared = (
        by_points no_limit.code (showdown_in no_limit (core_said divided_trace)) 5 high.points lawful_high _ _ 2 (2 ∷ 3 ∷ []) refl (lit≤ tt) refl (λ seat both. (and_parts _ _ both).1)
            (record { first = lit≤ tt; last = lit≤ tt; usable = (refl, lit≤ tt, lit≤ tt); different = refl }, (record { first = lit≤ tt; last = lit≤ tt; usable = (refl, lit≤ tt, lit≤ tt); different = refl }, tt))
            (by_three _ refl refl refl),
        tt,
      );
      finishes = by_three _ refl refl refl;
    })
