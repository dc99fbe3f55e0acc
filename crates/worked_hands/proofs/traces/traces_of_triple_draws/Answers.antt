-- The traces are computed; in the hand past the end of the deck only one seat is shown, and of the
-- hands of badugi the one with the most points wins.
use Rattle.std.proofs.Common.{◌≡◌, lit≤, refl}
use Rattle.card_set.specs.Ranks.{falling_heights, occurring, ranks_of, times}
use Rattle.card_set.specs.Spelling.{rank_lettered, slot_spelled, suit_lettered}
use Rattle.chip_ledger.specs.Pots.{after_return, layers, levels, pots_at, pots_of}
use Rattle.play_event.specs.Due.{turn}
use Rattle.play_event.specs.Reasons.{why}
use Rattle.play_event.specs.Scripts.{with_event}
use Rattle.std.specs.Prelude.{[], ◌∷◌}
use Rattle.std.proofs.lemmas.Bool.{and_parts}
use Rattle.hand_order.specs.Points.{greatest}
use Rattle.hand_order.specs.Digits.{with_digits}
use Rattle.hand_order.specs.Choices.{choices}
use Rattle.badugi_rank.specs.Badugi.{candidates}
use Rattle.badugi_rank.specs.Badugi as badugi_order
use Rattle.badugi_rank.specs.BadugiLaw.{lawful_badugi}
use Rattle.hand_canon.specs.LegalHand.{showdown_in}
use Rattle.hand_canon.specs.TraceRows.{core_said}
use Rattle.worked_hands.specs.Setups.{triple_draw}
use Rattle.worked_hands.specs.Scripts.{badugi_hand, past_the_deck}
use Rattle.worked_hands.specs.PlaySetups.{badugi}
use Rattle.worked_hands.specs.StreetTraces.{badugi_trace, past_deck_trace}
use Rattle.worked_hands.proofs.ByPoints.{among, by_one, by_points}
use Rattle.card_set.proofs.Numbers.{by_three}
use Rattle.card_set.proofs.Entries.{only}
use Rattle.worked_hands.proofs.FewSeats.{by_six}
use Rattle.worked_hands.proofs.Traced.{traced}
use Rattle.worked_hands.proofs.traces.traces_of_triple_draws.Goals as goal

pub returns-clause-past_the_deck : goal.returns-clause-past_the_deck
unfolding turn why with_event slot_spelled rank_lettered suit_lettered after_return levels layers pots_at pots_of
returns-clause-past_the_deck c =
    traced triple_draw past_the_deck past_deck_trace refl record {
      shown = refl;
      mucked = refl;
      eligible = only (λ pot. pot.eligible.seats ≡ 6) _ refl;
      returned = refl;
      shares = only (λ share. share.seats ≡ 6) _ refl;
      finish = refl;
    } refl
    (record {
      shared = (by_one triple_draw.code (showdown_in triple_draw (core_said past_deck_trace)) _ _ 1 refl (lit≤ tt) refl (λ seat both. among (λ seat. seat ≡ 1) (1 ∷ []) seat (refl, tt) (and_parts _ _ both).1) (by_six _ refl refl refl refl refl refl), tt);
      finishes = by_six _ refl refl refl refl refl refl;
    })

pub returns-clause-badugi : goal.returns-clause-badugi
unfolding turn why with_event slot_spelled rank_lettered suit_lettered after_return levels layers pots_at pots_of greatest candidates choices falling_heights occurring ranks_of times with_digits
returns-clause-badugi c =
    traced badugi badugi_hand badugi_trace refl record {
      shown = refl;
      mucked = refl;
      eligible = only (λ pot. pot.eligible.seats ≡ 3) _ refl;
      returned = refl;
      shares = only (λ share. share.seats ≡ 3) _ refl;
      finish = refl;
    } refl
    (record {
      shared = (
        by_points badugi.code (showdown_in badugi (core_said badugi_trace)) 4 badugi_order.points lawful_badugi _ _ 1 (1 ∷ 2 ∷ []) refl (lit≤ tt) refl (λ seat both. (and_parts _ _ both).1)
            (record { first = lit≤ tt; last = lit≤ tt; usable = refl; different = refl }, (record { first = lit≤ tt; last = lit≤ tt; usable = refl; different = refl }, tt))
            (by_three _ refl refl refl),
        tt,
      );
      finishes = by_three _ refl refl refl;
    })
