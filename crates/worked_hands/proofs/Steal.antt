-- The hand in which p3 steals the blinds is legal, and has its trace.
use Rattle.std.proofs.Common.{◌≡◌, inl, refl}
use Rattle.card_set.specs.Spelling.{slot_spelled, rank_lettered, suit_lettered}
use Rattle.chip_ledger.specs.Pots.{after_return, levels, layers, pots_at, pots_of}
use Rattle.play_event.specs.Due.{turn}
use Rattle.play_event.specs.Reasons.{why}
use Rattle.play_event.specs.Scripts.{with_event}
use Rattle.play_event.specs.HistoryRules.{history_rules}
use Rattle.hand_canon.specs.LegalHand.{IsLegalHand}
use Rattle.worked_hands.specs.Setups.{no_limit}
use Rattle.worked_hands.specs.PlayOutcomes.{HasTrace}
use Rattle.worked_hands.specs.Traces.{steal, steal_trace}
use Rattle.card_set.proofs.Entries.{only}
use Rattle.card_set.proofs.Numbers.{by_three}

pub steal_legal : IsLegalHand no_limit history_rules steal
unfolding turn why with_event slot_spelled rank_lettered suit_lettered after_return levels layers pots_at pots_of
steal_legal =
    record {
      played = record { legal = (refl, (refl, (refl, (refl, (refl, (refl, tt)))))); complete = refl };
      shareable = record { no_rake_above = refl; no_unshown = refl };
    }

pub steal_is : HasTrace no_limit steal steal_trace
unfolding turn why with_event slot_spelled rank_lettered suit_lettered after_return levels layers pots_at pots_of
steal_is =
    record {
      same_setup = refl;
      seats = record {
        shown = refl;
        mucked = refl;
        eligible = only (λ pot. pot.eligible.seats ≡ 3) _ refl;
        returned = refl;
        shares = only (λ share. share.seats ≡ 3) _ refl;
        finish = refl;
      };
      core = refl;
      shares = record {
        shared = (inl (record { one = refl; all = by_three _ refl refl refl }), tt);
        finishes = by_three _ refl refl refl;
      };
    }
