-- The traces are computed; only one seat is shown.
use Rattle.std.proofs.Common.{◌≡◌, lit≤, refl}
use Rattle.card_set.specs.Ranks.{falling_heights, occurring, ranks_of, times}
use Rattle.card_set.specs.Spelling.{rank_lettered, slot_spelled, suit_lettered}
use Rattle.card_set.specs.UpCards.{up_high_class}
use Rattle.chip_ledger.specs.Pots.{after_return, layers, levels, pots_at, pots_of}
use Rattle.play_event.specs.Due.{turn}
use Rattle.play_event.specs.Reasons.{why}
use Rattle.play_event.specs.Scripts.{with_event}
use Rattle.std.specs.Prelude.{[], ◌∷◌}
use Rattle.std.proofs.lemmas.Bool.{and_parts}
use Rattle.hand_canon.specs.LegalHand.{showdown_in}
use Rattle.hand_canon.specs.TraceRows.{core_said}
use Rattle.worked_hands.specs.Setups.{pot_limit, stud}
use Rattle.worked_hands.specs.BoardTraces.{omaha_trace}
use Rattle.worked_hands.specs.Scripts.{omaha_hand, stud_hand}
use Rattle.worked_hands.specs.StreetTraces.{stud_trace}
use Rattle.worked_hands.proofs.ByPoints.{among, by_one}
use Rattle.card_set.proofs.Numbers.{by_three, by_two}
use Rattle.card_set.proofs.Entries.{only}
use Rattle.worked_hands.proofs.Traced.{traced}
use Rattle.worked_hands.proofs.traces.traces_of_omaha_and_stud.Goals as goal

pub returns-clause-omaha : goal.returns-clause-omaha
unfolding turn why with_event slot_spelled rank_lettered suit_lettered after_return levels layers pots_at pots_of up_high_class ranks_of occurring times falling_heights
returns-clause-omaha c =
    traced pot_limit omaha_hand omaha_trace refl record {
      shown = refl;
      mucked = refl;
      eligible = only (λ pot. pot.eligible.seats ≡ 3) _ refl;
      returned = refl;
      shares = only (λ share. share.seats ≡ 3) _ refl;
      finish = refl;
    } refl
    (record {
      shared = (by_one pot_limit.code (showdown_in pot_limit (core_said omaha_trace)) _ _ 3 refl (lit≤ tt) refl (λ seat both. among (λ seat. seat ≡ 3) (3 ∷ []) seat (refl, tt) (and_parts _ _ both).1) (by_three _ refl refl refl), tt);
      finishes = by_three _ refl refl refl;
    })

pub returns-clause-stud : goal.returns-clause-stud
unfolding turn why with_event slot_spelled rank_lettered suit_lettered after_return levels layers pots_at pots_of up_high_class ranks_of occurring times falling_heights
returns-clause-stud c =
    traced stud stud_hand stud_trace refl record {
      shown = refl;
      mucked = refl;
      eligible = only (λ pot. pot.eligible.seats ≡ 2) _ refl;
      returned = refl;
      shares = only (λ share. share.seats ≡ 2) _ refl;
      finish = refl;
    } refl
    (record {
      shared = (by_one stud.code (showdown_in stud (core_said stud_trace)) _ _ 2 refl (lit≤ tt) refl (λ seat both. among (λ seat. seat ≡ 2) (2 ∷ []) seat (refl, tt) (and_parts _ _ both).1) (by_two _ refl refl), tt);
      finishes = by_two _ refl refl;
    })
