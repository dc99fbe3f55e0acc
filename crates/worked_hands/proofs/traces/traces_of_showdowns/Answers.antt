-- The trace is computed; of two seats the one that is shown gets the pot.
use Rattle.std.specs.Prelude.{◌≡◌, ◌==◌, ℕ, ◌||◌, ◌&&◌, true, false, length}
use Rattle.std.proofs.Common.{ap, arith, inl, inr, lit≤, refl, sym, ◌∙◌}
use Rattle.std.proofs.lemmas.Bool.{and_parts, eqb-true}
use Rattle.card_set.proofs.Tests.{false_true, or_false}
use Rattle.card_set.specs.Spelling.{slot_spelled, rank_lettered, suit_lettered}
use Rattle.chip_ledger.specs.Pots.{after_return, levels, layers, pots_at, pots_of}
use Rattle.play_event.specs.Due.{turn}
use Rattle.play_event.specs.Reasons.{why}
use Rattle.play_event.specs.Scripts.{with_event}
use Rattle.worked_hands.proofs.OneContends.{never_itself, no_part, one_contends}
use Rattle.worked_hands.proofs.traces.traces_of_showdowns.Goals as goal
use Rattle.card_set.proofs.Entries.{only}
use Rattle.card_set.proofs.Numbers.{by_two}

pub returns-clause-the_hand_is_legal : goal.returns-clause-the_hand_is_legal
unfolding turn why with_event slot_spelled rank_lettered suit_lettered after_return levels layers pots_at pots_of
returns-clause-the_hand_is_legal c =
    record {
      played = record { legal = (refl, (refl, (refl, (refl, (refl, (refl, (refl, (refl, (refl, (refl, tt)))))))))); complete = refl };
      shareable = record { no_rake_above = refl; no_unshown = refl };
    }

pub returns-clause-its_trace : goal.returns-clause-its_trace
unfolding turn why with_event slot_spelled rank_lettered suit_lettered after_return levels layers pots_at pots_of
returns-clause-its_trace c =
    record {
      same_setup = refl;
      seats = record {
        shown = refl;
        mucked = refl;
        eligible = only (λ pot. pot.eligible.seats ≡ 2) _ refl;
        returned = refl;
        shares = only (λ share. share.seats ≡ 2) _ refl;
        finish = refl;
      };
      core = refl;
      shares = record {
        shared = (
          inr (record {
            several = lit≤ tt;
            someone = (1, refl);
            contested = inl (
              (λ low. false_true low.2.0),
              record { wins = λ seat. seat == 1; told = one_contends _ _ 1 refl alone (never_itself _ _ _); parts = by_two _ refl refl },
            );
          }),
          tt,
        );
        finishes = by_two _ refl refl;
      };
    }
  where
    alone : (seat : ℕ) → (((1 == seat) || ((2 == seat) || false)) && ((1 == seat) || false)) ≡ true → seat ≡ 1
    alone seat both =
        let shown = (and_parts ((1 == seat) || ((2 == seat) || false)) ((1 == seat) || false) both).1 in
        sym (eqb-true 1 seat (sym (or_false (1 == seat)) ∙ shown))

pub returns-clause-chips_for_the_seat_that_mucked : goal.returns-clause-chips_for_the_seat_that_mucked
unfolding turn why with_event slot_spelled rank_lettered suit_lettered after_return levels layers pots_at pots_of
returns-clause-chips_for_the_seat_that_mucked c = λ is. elim is.shares.shared.0 [
  | inl of_one ↦ let one : ◌≡◌ {A = ℕ} 2 1 = of_one.one in omega (arith, one)
  | inr shown ↦ elim shown.contested [
    | inl high ↦ let none : ◌≡◌ {A = ℕ} 4 0 = no_part _ _ _ _ _ 2 high.1 (lit≤ tt) (lit≤ tt) refl in omega (arith, none)
    | inr low ↦ false_true low.0.2.0
  ]
]

pub returns-clause-a_muck_that_is_shown : goal.returns-clause-a_muck_that_is_shown
unfolding turn why with_event slot_spelled rank_lettered suit_lettered after_return levels layers pots_at pots_of
returns-clause-a_muck_that_is_shown c = λ is. let same : ◌≡◌ {A = ℕ} 2 1 = ap (λ core. length core.shown) is.core in omega (arith, same)
