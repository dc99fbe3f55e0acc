-- After a legal event of cards the state stands for the longer past, or stands for it up to its due
-- if that is complete.
use Rattle.std.proofs.Common.{◌≡◌, ℕ, ◌≤◌, Bool, true, false, nat_le, List, ◌∷◌, None, refl, sym, ap, subst, ◌∙◌, arith}
use Rattle.std.proofs.lemmas.Bool.{true≢false, not-false, and_from, le-leb}
use Rattle.play_event.specs.declared.reason.Due.{Due}
use Rattle.play_event.specs.declared.reason.Due.TheVariants as dues
use Rattle.play_event.specs.declared.setup.Rules.{Rules}
use Rattle.play_event.specs.Games.{street_count}
use Rattle.play_event.specs.Past.{Past, Move, Resolved, moves_of, street_of}
use Rattle.play_event.specs.Seats.{is_live, live_count}
use Rattle.play_event.specs.Showing.{has_to_show}
use Rattle.play_event.specs.Due.{turn, is_settled}
use Rattle.play_event.specs.Said.{Said}
use Rattle.play_event.specs.Reasons.{why, may_come}
use Rattle.play_event.specs.Scripts.{with_event, resolved_on}
use Rattle.play_event.specs.TurnTargets.{is_bet_due}
use Rattle.play_event.proofs.ReasonLaws.{no_reason_holds}
use Rattle.play_laws.specs.CardEvents.{is_card_event, is_card_said, is_showing}
use Rattle.play_laws.specs.Done.{is_done}
use Rattle.play_laws.specs.Walk.{has_nothing_later}
use Rattle.play_laws.proofs.CardTurns.{several_live, moves_kept}
use Rattle.play_laws.proofs.Later.{reached_by}
use Rattle.play_laws.proofs.LegalCards.{at_street, card_resolved, shows_kept, settled_at, betting_event, undrawn}
use Rattle.play_laws.proofs.Showdown.{one_left, show_over}
use Rattle.play_laws.proofs.TurnAfter.{few_is_over}
use Rattle.play_laws.proofs.Unsettled.{unsettled}
use Rattle.betting_numbers.specs.declared.betting_state.BettingState.{BettingState}
use Rattle.betting_numbers.specs.Standing.{Standing, StandsFor}
use Rattle.betting_numbers.specs.UpTo.{StandsUpTo}
use Rattle.betting_numbers.proofs.Carded.{deal_kept, deal_ended, draw_kept, draw_ended, show_kept, show_done}
use Rattle.card_set.proofs.Numbers.{two_or_more}

-- a legal event may come
pub comes : (b : BettingState) (rules : Rules) (past : Past) (event : Said) → StandsFor b past → why b.setup rules past event ≡ None → may_come b.setup past (b.street, b.due) event ≡ true
comes b rules past event stands legal =
    sym (ap (λ now. may_come b.setup past now event) stands.turn_is)
    ∙ not-false (may_come b.setup past (turn b.setup past) event) (no_reason_holds b.setup rules past event legal).1.0

deal_over : (n : ℕ) → dues.Deal n ≡ dues.Over → ⊥
deal_over n e = cc

draw_over : (n : ℕ) → dues.Draw n ≡ dues.Over → ⊥
draw_over n e = cc

-- after a legal event of cards
module _ (b : BettingState) (rules : Rules) (past : Past) (event : Said) (stands : StandsFor b past) (card : is_card_said event ≡ true) (legal : why b.setup rules past event ≡ None) (from_one : 1 ≤ b.street) (within : b.street ≤ street_count b.setup.code) where
  abbrev the_event : Resolved
  the_event = resolved_on b.setup past b.street event

  pub taken_is : with_event b.setup event past ≡ the_event ∷ past
  unfolding with_event
  taken_is = ap (λ (now : ℕ × Due). resolved_on b.setup past now.0 event ∷ past) stands.turn_is

  may : may_come b.setup past (b.street, b.due) event ≡ true
  may = comes b rules past event stands legal

  still_by : (shows : Bool) → is_showing event ≡ shows → (b.due ≡ dues.Over → ⊥) → is_settled b.setup (moves_of past) (b.street, b.due) ≡ false → (seat : ℕ) → is_live (moves_of past) seat ≡ true → has_to_show (the_event ∷ past) seat ≡ true
  still_by false is other unended seat live = shows_kept b.setup past b.street event seat card is ∙ stands.unshown other unended seat live
  still_by true is other unended seat live =
      absurd (true≢false (sym (settled_at b.setup past b.street (two_or_more (live_count b.setup (moves_of past)) (several_live b.setup past b.street b.due stands.turn_is other)) b.due event is may other) ∙ unended))

  still : (b.due ≡ dues.Over → ⊥) → is_settled b.setup (moves_of past) (b.street, b.due) ≡ false → (seat : ℕ) → is_live (moves_of past) seat ≡ true → has_to_show (the_event ∷ past) seat ≡ true
  still other = still_by (is_showing event) refl other

  resolved : is_card_event the_event ≡ true
  resolved = card_resolved b.setup past b.street event card

  no_betting : is_bet_due b.due ≡ true → ⊥
  no_betting bets = true≢false (sym (betting_event b.setup past b.street b.due event bets card may) ∙ unsettled b.setup past b.street b.due stands.turn_is bets)

  over_kept : b.due ≡ dues.Over → StandsFor b (the_event ∷ past)
  over_kept is =
      let few : nat_le (live_count b.setup (moves_of past)) 1 ≡ true = one_left b.setup rules past event b.street (stands.turn_is ∙ ap (λ (d : Due). (b.street, d)) is) legal (nat_le (live_count b.setup (moves_of past)) 1) refl in
      let same : moves_of (the_event ∷ past) ≡ moves_of past = moves_kept the_event past resolved in
      let at : street_of the_event ≡ b.street = at_street b.setup past b.street event in
      record {
        valid = stands.valid;
        standing = subst (λ (ms : List Move). Standing b.setup b.street b ms) (sym same) stands.standing;
        turn_is =
            few_is_over b.setup (the_event ∷ past) (ap (λ (ms : List Move). nat_le (live_count b.setup ms) 1) same ∙ few)
            ∙ ap (λ (n : ℕ). (n, dues.Over)) at
            ∙ ap (λ (d : Due). (b.street, d)) (sym is);
        someone = subst (λ (ms : List Move). 1 ≤ live_count b.setup ms) (sym same) stands.someone;
        early = and_from (nat_le (street_of the_event) b.street) (has_nothing_later past b.street) (le-leb (street_of the_event) b.street (omega (arith, at))) stands.early;
        unshown = λ other. absurd (other is);
      }

  kept_by : (due : Due) → b.due ≡ due → is_done b.setup (the_event ∷ past) b.due ≡ false → StandsFor b (the_event ∷ past)
  kept_by (dues.Deal on) is unended = deal_kept b past the_event stands resolved (at_street b.setup past b.street event) from_one within (still (λ over. deal_over on (sym is ∙ over))) on is unended
  kept_by (dues.Draw on) is unended = draw_kept b past the_event stands resolved (at_street b.setup past b.street event) from_one within (still (λ over. draw_over on (sym is ∙ over))) on is unended
  kept_by dues.Show is unended = show_kept b past the_event stands resolved (at_street b.setup past b.street event) from_one within (still (λ over. show_over (sym is ∙ over)))
      (undrawn b.setup past b.street event card (sym (ap (λ (d : Due). may_come b.setup past (b.street, d) event) is) ∙ may)) (reached_by past b.street from_one stands.early) is unended
  kept_by dues.BringIn is unended = absurd (no_betting (ap is_bet_due is))
  kept_by dues.Move is unended = absurd (no_betting (ap is_bet_due is))
  kept_by dues.Over is unended = over_kept is

  ended_by : (due : Due) → b.due ≡ due → is_done b.setup (the_event ∷ past) b.due ≡ true → StandsUpTo b (the_event ∷ past)
  ended_by (dues.Deal on) is done = deal_ended b past the_event stands resolved (at_street b.setup past b.street event) from_one within (still (λ over. deal_over on (sym is ∙ over))) on is done
  ended_by (dues.Draw on) is done = draw_ended b past the_event stands resolved (at_street b.setup past b.street event) from_one within (still (λ over. draw_over on (sym is ∙ over))) on is done
  ended_by dues.Show is done = show_done b past the_event stands resolved (at_street b.setup past b.street event) from_one within (still (λ over. show_over (sym is ∙ over)))
      (undrawn b.setup past b.street event card (sym (ap (λ (d : Due). may_come b.setup past (b.street, d) event) is) ∙ may)) (reached_by past b.street from_one stands.early) is done
  ended_by dues.BringIn is done = absurd (true≢false (sym done ∙ ap (is_done b.setup (the_event ∷ past)) is))
  ended_by dues.Move is done = absurd (true≢false (sym done ∙ ap (is_done b.setup (the_event ∷ past)) is))
  ended_by dues.Over is done = absurd (true≢false (sym done ∙ ap (is_done b.setup (the_event ∷ past)) is))

  pub card_kept : is_done b.setup (with_event b.setup event past) b.due ≡ false → StandsFor b (with_event b.setup event past)
  card_kept unended = subst (StandsFor b) (sym taken_is) (kept_by b.due refl (sym (ap (λ (p : Past). is_done b.setup p b.due) taken_is) ∙ unended))

  pub card_ended : is_done b.setup (with_event b.setup event past) b.due ≡ true → StandsUpTo b (with_event b.setup event past)
  card_ended done = subst (StandsUpTo b) (sym taken_is) (ended_by b.due refl (sym (ap (λ (p : Past). is_done b.setup p b.due) taken_is) ∙ done))
