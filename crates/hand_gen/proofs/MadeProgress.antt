-- A script whose events have come makes progress, and there is one after which nothing comes.
use Rattle.std.proofs.Common.{◌+◌, ◌≡◌, ℕ, ◌≤◌, true, ◌&&◌, not, nat_le, nat_lt, Option, Some, None, IfSome, List, [], ◌∷◌, length, reverse, count_by, refl, sym, ap, subst, ◌∙◌, arith, zero, suc}
use Rattle.std.proofs.lemmas.Bool.{and_parts, le-ltb}
use Rattle.std.proofs.lemmas.List.{length-map, reverse-reverse}
use Rattle.canon_laws.proofs.MoveCounts.{move_count}
use Rattle.play_event.specs.PlayedScript.{is_move_event}
use Rattle.play_event.specs.TraceCore.{core_of}
use Rattle.card_set.specs.declared.card.Card.{Card}
use Rattle.card_set.specs.declared.card.Slot.{Slot}
use Rattle.card_set.specs.declared.card.Slot.TheVariants as slots
use Rattle.card_set.specs.Known.{hides_card}
use Rattle.chip_ledger.specs.Pots.{PlainPot}
use Rattle.chip_ledger.specs.RakeRow.{rake_of}
use Rattle.chip_ledger.specs.Rakes.{chips_in, first_rake_above}
use Rattle.hand_canon.specs.LegalHand.{IsLegalHand}
use Rattle.card_set.proofs.Counting.{count_both}
use Rattle.card_set.proofs.Finding.{none_stronger}
use Rattle.card_set.proofs.NumbersOfRange.{find_no}
use Rattle.card_set.proofs.Options.{none_from_not}
use Rattle.card_set.proofs.Reversed.{count_reversed}
use Rattle.card_set.proofs.Tests.{all_four}
use Rattle.play_event.specs.declared.code.Code.{Code}
use Rattle.play_event.specs.declared.code.Code.TheVariants as games
use Rattle.play_event.specs.declared.setup.Setup.{Setup}
use Rattle.play_event.specs.Due.{is_unfinished, turn}
use Rattle.play_event.specs.HistoryRules.{history_rules}
use Rattle.play_event.specs.Past.{Past, moves_of}
use Rattle.play_event.specs.Places.{Place, is_held_by}
use Rattle.play_event.specs.Reasons.{why}
use Rattle.play_event.specs.Said.{Said}
use Rattle.play_event.specs.Scripts.{past_of}
use Rattle.play_event.specs.Seats.{is_live, live_count}
use Rattle.play_event.specs.Showing.{has_mucked}
use Rattle.play_event.specs.Streets.{deck_of}
use Rattle.play_event.specs.Table.{places_of}
use Rattle.play_event.specs.Trace.{has_unknown_card, is_shown}
use Rattle.play_event.proofs.ScriptLaws.{at_end}
use Rattle.hand_gen.specs.Made.{HaveCome, next_event, source_behind, source_of}
use Rattle.hand_gen.specs.Progress.{HasEnd, IsSmall, MakesProgress}
use Rattle.hand_gen.specs.Setups.{IsMadeSetup}
use Rattle.hand_gen.specs.HandSource.{HandSource, full_deck}
use Rattle.hand_gen.proofs.CardsOut.{deck_enough, few_drawn}
use Rattle.hand_gen.proofs.FewMoves.{left_at_start}
use Rattle.hand_gen.proofs.GoingHands.{IsGoing, all_known, at_start, deck_is, is_other}
use Rattle.hand_gen.proofs.KnownCards.{none_unknown}
use Rattle.hand_gen.proofs.ProgressLaws.{ended, goes_on}
use Rattle.hand_gen.proofs.SetupLaws.{made_small}
use Rattle.hand_gen.proofs.ShownPots.{none_unshown}

module _ (setup : Setup) (small : IsSmall setup) (start : HandSource) (whole_deck : start.deck ≡ full_deck setup.code) where
  -- so a made hand goes on, event by event
  pub made_going : (events : List Said) → HaveCome setup history_rules start events → IsGoing setup events (source_behind setup history_rules start events).deck
  made_going [] come = subst (λ (deck : List Card). IsGoing setup [] deck) (sym whole_deck) (at_start setup)
  made_going (event ∷ before) come =
      goes_on setup small.valid small.few_seats before (source_behind setup history_rules start before) (made_going before come.1) event come.0

few_cards : (code : Code) → deck_of code ≤ 52
few_cards games.FT = omega arith
few_cards games.NT = omega arith
few_cards games.NS = omega arith
few_cards games.PO = omega arith
few_cards games.FO8 = omega arith
few_cards games.F7S = omega arith
few_cards games.F7S8 = omega arith
few_cards games.FR = omega arith
few_cards games.N2L1D = omega arith
few_cards games.F2L3D = omega arith
few_cards games.FB = omega arith

-- how many events there are
record AreFew (events : List Said) : Type 0 where
  moves : count_by is_move_event events ≤ 2025
  others : count_by is_other events ≤ 72

few_events : (setup : Setup) (events : List Said) (deck : List Card) → IsSmall setup → IsGoing setup events deck → AreFew events
few_events setup events deck small going =
    let past : Past = past_of setup events in
    record {
      moves = omega (
        arith,
        move_count setup events,
        going.state.moves,
        left_at_start setup 500 (λ seat. omega (arith, small.few_chips seat)),
        small.few_seats,
      );
      others = omega (
        arith,
        going.others,
        deck_enough setup past small.few_seats going.state.few,
        few_cards setup.code,
        going.state.drawn,
        few_drawn setup past,
        small.few_seats,
      );
    }

no_rake : (setup : Setup) (pots : List PlainPot) → IsSmall setup → first_rake_above setup.rakes pots ≡ None
no_rake setup pots small =
    none_from_not (first_rake_above setup.rakes pots)
    (ap not (find_no (λ number. nat_lt (chips_in pots number) (rake_of setup.rakes number)) 1 11 (λ number low high. le-ltb (chips_in pots number) (rake_of setup.rakes number) (omega (arith, small.no_rakes number)))))

module _ (setup : Setup) (small : IsSmall setup) (start : HandSource) (whole_deck : start.deck ≡ full_deck setup.code) (script : List Said) (come : HaveCome setup history_rules start (reverse script)) where
  abbrev now : Past
  now = past_of setup (reverse script)

  abbrev stock : HandSource
  stock = source_behind setup history_rules start (reverse script)

  going : IsGoing setup (reverse script) stock.deck
  going = made_going setup small start whole_deck (reverse script) come

  shows : (seat : ℕ) → nat_le 2 (live_count setup (moves_of now)) ≡ true → is_live (moves_of now) seat ≡ true → is_shown setup now seat ≡ true
  shows seat several live =
      all_four (nat_le 2 (live_count setup (moves_of now))) (is_live (moves_of now) seat) (not (has_mucked now seat)) (not (has_unknown_card setup now seat)) several live
      (ap not (going.state.unmucked seat))
      (ap not (none_stronger (λ (place : Place). is_held_by seat place && hides_card place.slot) (λ (place : Place). hides_card place.slot)
      (λ place is. (and_parts (is_held_by seat place) (hides_card place.slot) is).1) (places_of setup.code now)
      (none_unknown (places_of setup.code now) (all_known setup small.few_seats (reverse script) stock going))))

  whole_hand : next_event setup history_rules start (reverse script) ≡ None → IsLegalHand setup history_rules script
  whole_hand none = record {
    played = record {
      legal = going.legal;
      complete = ap (λ (p : Past). is_unfinished (turn setup p).1) (at_end setup script) ∙ ended setup small.valid small.few_seats (reverse script) stock going none;
    };
    shareable = record {
      no_rake_above = no_rake setup (core_of setup now).pots small;
      no_unshown = none_unshown setup now shows;
    };
  }

  legal_next : (next : Option Said) → next_event setup history_rules start (reverse script) ≡ next → IfSome next (λ event. why setup history_rules now event ≡ None)
  legal_next None is = tt
  legal_next (Some event) is = (goes_on setup small.valid small.few_seats (reverse script) stock going event is).legal.0

  -- what is made makes progress
  pub progress : MakesProgress setup start script
  progress =
      let few = few_events setup (reverse script) stock.deck small going in
      let moves = count_reversed is_move_event script in
      let others = count_reversed is_other script in
      record {
        legal = going.legal;
        within = record { moves = omega (arith, few.moves, moves); others = omega (arith, few.others, others) };
        few = omega (arith, few.moves, few.others, moves, others, count_both is_move_event script);
        cards = omega (
          arith,
          length-map (places_of setup.code now) (λ (place : Place). place.slot),
          ap (λ (l : List Slot). length l) going.state.lie,
          length-map going.state.dealt (λ card. slots.Known card),
          deck_is setup small.few_seats (reverse script) stock going,
        );
        next_legal = legal_next (next_event setup history_rules start (reverse script)) refl;
        whole = whole_hand;
      }

-- and so does what is made of a made setup
pub hands_progress : (place number : ℕ) (setup : Setup) (script : List Said) → IsMadeSetup place number setup → HaveCome setup history_rules (source_of number setup) (reverse script) → MakesProgress setup (source_of number setup) script
hands_progress place number setup script made come = progress setup (made_small place number setup made) (source_of number setup) refl script come

-- a hand ends: from events that have come there are some after which nothing comes
module _ (setup : Setup) (small : IsSmall setup) (start : HandSource) (whole_deck : start.deck ≡ full_deck setup.code) where
  ends_from : (left : ℕ) (events : List Said) → HaveCome setup history_rules start events → 4352 ≤ left + length events → HasEnd setup start
  ends_from zero events come far =
      let few = few_events setup events (source_behind setup history_rules start events).deck small (made_going setup small start whole_deck events come) in
      absurd (omega (arith, far, few.moves, few.others, count_both is_move_event events))
  ends_from (suc left) events come far = by_next (next_event setup history_rules start events) refl (λ event is. ends_from left (event ∷ events) (is, come) (omega (arith, far)))
    where
      by_next : (next : Option Said) → next_event setup history_rules start events ≡ next → ((event : Said) → next_event setup history_rules start events ≡ Some event → HasEnd setup start) → HasEnd setup start
      by_next None is later =
          let same : reverse (reverse events) ≡ events = reverse-reverse events in
          record {
            script = reverse events;
            come = subst (HaveCome setup history_rules start) (sym same) come;
            ended = ap (next_event setup history_rules start) same ∙ is;
          }
      by_next (Some event) is later = later event is

pub hands_end : (place number : ℕ) (setup : Setup) → IsMadeSetup place number setup → HasEnd setup (source_of number setup)
hands_end place number setup made = ends_from setup (made_small place number setup made) (source_of number setup) refl 4352 [] tt (omega arith)
