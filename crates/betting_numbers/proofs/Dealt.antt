-- When a deal or a draw is ended, the state stands for the past, or stands for it up to its new
-- due.
use Rattle.std.proofs.Common.{◌≡◌, ℕ, ◌+◌, ◌<◌, ◌≤◌, Bool, true, false, ◌&&◌, ◌||◌, not, nat_lt, nat_le, if◌then◌else◌, inl, inr, ◌⊎◌, List, [], Some, None, is_some, refl, sym, ap, subst, ◌∙◌, arith}
use Rattle.std.specs.List.{list_any}
use Rattle.std.proofs.lemmas.Bool.{and_left, cases_eq, cases_lt, true≢false, ltb-true, ltb-false, not-true, ne_eqb}
use Rattle.play_event.specs.declared.code.Code.{Code}
use Rattle.play_event.specs.declared.reason.Due.{Due}
use Rattle.play_event.specs.declared.reason.Due.TheVariants as dues
use Rattle.play_event.specs.declared.setup.Setup.{Setup}
use Rattle.play_event.specs.Games.{street_count}
use Rattle.play_event.specs.Streets.{has_draw}
use Rattle.play_event.specs.Past.{Past, Move, moves_of, moves_on, newest_street}
use Rattle.play_event.specs.Chips.{street_chips, chips_added, brought, blind_posted}
use Rattle.play_event.specs.Seats.{is_live, can_act, live_count, able_count, all_seats}
use Rattle.play_event.specs.CurrentBet.{current_bet, to_call}
use Rattle.play_event.specs.Dealing.{is_deal_due, is_draw_due, next_to_draw, replacements_owed}
use Rattle.play_event.specs.Showing.{is_show_due, has_to_show}
use Rattle.play_event.specs.Due.{turn, due_on, showdown, is_bring_in_due, is_move_due, is_settled, has_able_seat_to_call, is_after_betting}
use Rattle.play_event.specs.ValidSetup.{IsValid}
use Rattle.betting_numbers.specs.declared.betting_state.BettingState.{BettingState}
use Rattle.betting_numbers.specs.Seen.{is_move_due_seen}
use Rattle.betting_numbers.specs.Standing.{Standing, StandsFor}
use Rattle.play_laws.specs.Walk.{street_cards, betting_turn, has_no_move_later, walked}
use Rattle.betting_numbers.specs.Turn.{with_due, IsDealtTo}
use Rattle.betting_numbers.specs.UpTo.{StandsUpTo}
use Rattle.play_laws.specs.Done.{HasCome, is_done}
use Rattle.card_set.proofs.Any.{none_passes}
use Rattle.betting_numbers.proofs.Bridge.{bring_in_due_is, move_due_is}
use Rattle.betting_numbers.proofs.NextStreet.{standing_next, zero_greatest}
use Rattle.play_laws.proofs.Later.{early_moves, early_up, none_on}
use Rattle.play_laws.proofs.TurnAfter.{AreDealt, due_by, cards_come, quiet_is_showdown}
use Rattle.betting_numbers.proofs.StandsAfter.{standing_with_turn}
use Rattle.play_laws.proofs.Walk.{walk_on, due_here}
use Rattle.play_laws.proofs.LiveSeats.{one_of_several}
use Rattle.card_set.proofs.Numbers.{two_or_more}

-- the cards of a street are dealt if its deal or its draw is complete
no_draw : (setup : Setup) (past : Past) (street : ℕ) → has_draw setup.code street ≡ false → is_draw_due setup past street ≡ false
no_draw setup past street none = and_left (has_draw setup.code street) (is_some (next_to_draw setup past street) || list_any (λ seat. nat_lt 0 (replacements_owed past street seat)) (all_seats setup)) none

are_dealt : (setup : Setup) (past : Past) (street : ℕ) (due : Due) → (due ≡ dues.Show → ⊥) → HasCome setup past street due → is_done setup past due ≡ true → AreDealt setup past street
are_dealt setup past street (dues.Deal on) other come done =
    record { dealt = ap (λ (n : ℕ). is_deal_due setup past n) (sym come.0) ∙ not-true (is_deal_due setup past on) done; drawn = no_draw setup past street come.1 }
are_dealt setup past street (dues.Draw on) other come done =
    record { dealt = come.1; drawn = ap (λ (n : ℕ). is_draw_due setup past n) (sym come.0) ∙ not-true (is_draw_due setup past on) done }
are_dealt setup past street dues.Show other come done = absurd (other refl)
are_dealt setup past street dues.BringIn other come done = absurd come
are_dealt setup past street dues.Move other come done = absurd come
are_dealt setup past street dues.Over other come done = absurd come

no_chips : (setup : Setup) (moves : List Move) (street seat : ℕ) → has_no_move_later moves street ≡ true → 1 ≤ street → street_chips setup moves (street + 1) seat ≡ 0
no_chips setup moves street seat early low =
    let none : moves_on (street + 1) moves ≡ [] = none_on moves street (street + 1) early (omega arith) in
    let nothing : brought setup (street + 1) seat ≡ 0 = ap (λ b. if b then blind_posted setup seat else 0) (ne_eqb (street + 1) 1 (λ same. omega (arith, same, low))) in
    omega (arith, nothing, ap (chips_added seat) none)

pub nobody_owes : (setup : Setup) (moves : List Move) (street : ℕ) → has_no_move_later moves street ≡ true → 1 ≤ street → has_able_seat_to_call setup moves (street + 1) ≡ false
nobody_owes setup moves street early low =
    let free : current_bet setup moves (street + 1) ≡ 0 = zero_greatest (street_chips setup moves (street + 1)) 1 setup.stacks.seats (λ k. no_chips setup moves street k early low) in
    none_passes (λ seat. can_act setup moves seat && nat_lt 0 (to_call setup moves (street + 1) seat)) (all_seats setup) (λ seat.
    let nothing : to_call setup moves (street + 1) seat ≡ 0 = omega (arith, free) in
    ap (λ (n : ℕ). can_act setup moves seat && nat_lt 0 n) nothing ∙ and_nothing (can_act setup moves seat))
  where
    and_nothing : (b : Bool) → (b && false) ≡ false
    and_nothing true = refl
    and_nothing false = refl

settled_more : (live few owes after owes_now : Bool) → (owes ≡ false → owes_now ≡ false) → (live && (after || (few && not owes_now))) ≡ false → (live && (false || (few && not owes))) ≡ false
settled_more false few owes after owes_now less is = refl
settled_more true false owes after owes_now less is = refl
settled_more true true true after owes_now less is = refl
settled_more true true false true owes_now less is = absurd (true≢false is)
settled_more true true false false owes_now less is = absurd (true≢false (sym (ap not (less refl)) ∙ is))

-- what is due together with the cards of a street is not complete
cards_not_done : (street : ℕ) (draws deal draw bring_in move : Bool) → due_by street deal draw bring_in move ≡ Some (if draws then dues.Draw street else dues.Deal street) → (if draws then not draw else not deal) ≡ false
cards_not_done street true true draw bring_in move is = absurd cc
cards_not_done street true false true bring_in move is = refl
cards_not_done street true false false true move is = absurd cc
cards_not_done street true false false false true is = absurd cc
cards_not_done street true false false false false is = absurd cc
cards_not_done street false true draw bring_in move is = refl
cards_not_done street false false true bring_in move is = absurd cc
cards_not_done street false false false true move is = absurd cc
cards_not_done street false false false false true is = absurd cc
cards_not_done street false false false false false is = absurd cc

done_by : (setup : Setup) (past : Past) (street : ℕ) (draws : Bool) → is_done setup past (if draws then dues.Draw street else dues.Deal street) ≡ (if draws then not (is_draw_due setup past street) else not (is_deal_due setup past street))
done_by setup past street true = refl
done_by setup past street false = refl

-- what is due once the cards of a street are dealt
abbrev after_cards : Code → ℕ → (bring_in move before : Bool) → Due → ℕ × Due
after_cards code street bring_in move before last =
    if bring_in then (street, dues.BringIn) else if move then (street, dues.Move) else if before then (street + 1, street_cards code (street + 1)) else (street, last)

abbrev the_showdown : ℕ → ℕ × Due
the_showdown street = (street, dues.Show)

-- the showdown is read if it comes alone
walked_other : (code : Code) (street : ℕ) (bring_in move before : Bool) (last : Due) → (after_cards code street bring_in move before dues.Show ≡ the_showdown street → ⊥) → after_cards code street bring_in move before last ≡ after_cards code street bring_in move before dues.Show
walked_other code street true move before last other = refl
walked_other code street false true before last other = refl
walked_other code street false false true last other = refl
walked_other code street false false false last other = absurd (other refl)

-- there was no betting before the cards
cards_before : (setup : Setup) (past : Past) (street : ℕ) (due : Due) → (due ≡ dues.Show → ⊥) → HasCome setup past street due → is_after_betting due ≡ false
cards_before setup past street (dues.Deal on) other come = refl
cards_before setup past street (dues.Draw on) other come = refl
cards_before setup past street dues.Show other come = absurd (other refl)
cards_before setup past street dues.BringIn other come = refl
cards_before setup past street dues.Move other come = refl
cards_before setup past street dues.Over other come = absurd come

pub record IsShowdown (b next : BettingState) (past : Past) : Type 0 where
  pub same : next.street ≡ b.street
  pub show : next.due ≡ dues.Show
  pub last : b.street ≡ street_count b.setup.code
  pub quiet : due_on b.setup past b.street ≡ None

module _ (b next : BettingState) (past : Past) (up : StandsUpTo b past) (other : b.due ≡ dues.Show → ⊥) (from_one : 1 ≤ b.street) (within : b.street ≤ street_count b.setup.code) (to : IsDealtTo b next) where
  are : AreDealt b.setup past b.street
  are = are_dealt b.setup past b.street b.due other up.come up.done

  record Comes : Type 0 where
    setup : next.setup ≡ b.setup
    standing : Standing next.setup next.street next (moves_of past)
    street : (next.street ≡ b.street) ⊎ (next.street ≡ b.street + 1)

  comes : Comes
  comes = elim (cases_eq next.street b.street) [
    | inl same ↦ record {
      setup = ap (λ (t : BettingState). t.setup) (to.stays same);
      standing = subst (λ (t : BettingState). Standing t.setup t.street t (moves_of past)) (sym (to.stays same)) (standing_with_turn b.setup b.street b next.due next.next (moves_of past) up.standing);
      street = inl same;
    }
    | inr new ↦ record {
      setup = (to.goes new).setup;
      standing = standing_next b next (moves_of past) up.standing (early_moves past b.street up.early) from_one (to.goes new);
      street = inr (to.goes new).street;
    }
  ]

  to_is : (next.street, next.due) ≡ betting_turn b.setup.code b.street (is_bring_in_due b.setup (moves_of past) b.street) (is_move_due b.setup (moves_of past) b.street)
  to_is =
      to.turn_is
      ∙ ap (λ i. betting_turn b.setup.code b.street i (is_move_due_seen b)) (bring_in_due_is b (moves_of past) up.standing)
      ∙ ap (betting_turn b.setup.code b.street (is_bring_in_due b.setup (moves_of past) b.street)) (move_due_is b (moves_of past) up.standing)

  walk : turn b.setup past ≡ walked b.setup.code b.street (is_bring_in_due b.setup (moves_of past) b.street) (is_move_due b.setup (moves_of past) b.street) (showdown b.setup past)
  walk = walk_on b.setup past b.street are up.early up.reached up.quiet within up.more

  shows_by : (shows : Bool) → is_show_due b.setup past ≡ shows → is_done b.setup past next.due ≡ false → turn b.setup past ≡ (next.street, next.due)
  shows_by true is unended =
      walk
      ∙ ap (λ (s : Bool). walked b.setup.code b.street (is_bring_in_due b.setup (moves_of past) b.street) (is_move_due b.setup (moves_of past) b.street) (if s then dues.Show else dues.Over)) is
      ∙ sym to_is
  shows_by false is unended =
      walk
      ∙ walked_other b.setup.code b.street (is_bring_in_due b.setup (moves_of past) b.street) (is_move_due b.setup (moves_of past) b.street) (nat_lt b.street (street_count b.setup.code)) (showdown b.setup past)
      (λ shown.
      let due : next.due ≡ dues.Show = ap (λ (p : ℕ × Due). p.1) (to_is ∙ shown) in
      true≢false (sym (ap not is) ∙ sym (ap (is_done b.setup past) due) ∙ unended))
      ∙ sym to_is

  later_street : b.street ≤ next.street
  later_street = elim (comes.street) [ inl same ↦ omega (arith, same) | inr new ↦ omega (arith, new) ]

  owes_less : has_able_seat_to_call b.setup (moves_of past) b.street ≡ false → has_able_seat_to_call b.setup (moves_of past) next.street ≡ false
  owes_less none = elim (comes.street) [
    | inl same ↦ ap (has_able_seat_to_call b.setup (moves_of past)) same ∙ none
    | inr new ↦ ap (has_able_seat_to_call b.setup (moves_of past)) new ∙ nobody_owes b.setup (moves_of past) b.street (early_moves past b.street up.early) from_one
  ]

  unshown_still : is_settled b.setup (moves_of past) (next.street, next.due) ≡ false → (seat : ℕ) → is_live (moves_of past) seat ≡ true → has_to_show past seat ≡ true
  unshown_still unended =
      up.unshown (
      ap (λ a. nat_le 2 (live_count b.setup (moves_of past)) && (a || (nat_le (able_count b.setup (moves_of past)) 1 && not (has_able_seat_to_call b.setup (moves_of past) b.street)))) (cards_before b.setup past b.street b.due other up.come)
      ∙ settled_more (nat_le 2 (live_count b.setup (moves_of past))) (nat_le (able_count b.setup (moves_of past)) 1) (has_able_seat_to_call b.setup (moves_of past) b.street) (is_after_betting next.due) (has_able_seat_to_call b.setup (moves_of past) next.street) owes_less unended
      )

  -- the state stands for the past
  pub stands_dealt : is_done b.setup past next.due ≡ false → StandsFor next past
  stands_dealt unended = record {
    valid = subst (λ s. IsValid s) (sym comes.setup) up.valid;
    standing = comes.standing;
    turn_is = ap (λ s. turn s past) comes.setup ∙ shows_by (is_show_due b.setup past) refl unended;
    someone = subst (λ s. 1 ≤ live_count s (moves_of past)) (sym comes.setup) (one_of_several b.setup (moves_of past) up.more);
    early = early_up past b.street next.street later_street up.early;
    unshown = λ other unended. unshown_still (sym (ap (λ s. is_settled s (moves_of past) (next.street, next.due)) comes.setup) ∙ unended);
  }

  showdown_by : (bring_in move before : Bool) → is_bring_in_due b.setup (moves_of past) b.street ≡ bring_in → is_move_due b.setup (moves_of past) b.street ≡ move → nat_lt b.street (street_count b.setup.code) ≡ before
      → (next.street, next.due) ≡ after_cards b.setup.code b.street bring_in move before dues.Show
      → is_done b.setup past next.due ≡ true → IsShowdown b next past
  showdown_by true move before bring_is move_is before_is is done = absurd (true≢false (sym done ∙ ap (is_done b.setup past) (ap (λ (p : ℕ × Due). p.1) is)))
  showdown_by false true before bring_is move_is before_is is done = absurd (true≢false (sym done ∙ ap (is_done b.setup past) (ap (λ (p : ℕ × Due). p.1) is)))
  showdown_by false false true bring_is move_is before_is is done =
      let less : b.street < street_count b.setup.code = ltb-true b.street (street_count b.setup.code) before_is in
      let next_one = b.street + 1 in
      let come : due_on b.setup past (b.street + 1) ≡ Some (street_cards b.setup.code (b.street + 1)) = cards_come b.setup past b.street (b.street + 1) up.early (omega arith) (omega (arith, less)) up.more in
      absurd (true≢false (
      sym done
      ∙ ap (is_done b.setup past) (ap (λ (p : ℕ × Due). p.1) is)
      ∙ done_by b.setup past (b.street + 1) (has_draw b.setup.code (b.street + 1))
      ∙ cards_not_done (b.street + 1) (has_draw b.setup.code (b.street + 1)) (is_deal_due b.setup past (b.street + 1)) (is_draw_due b.setup past (b.street + 1)) (is_bring_in_due b.setup (moves_of past) (b.street + 1)) (is_move_due b.setup (moves_of past) (b.street + 1)) come
      ))
  showdown_by false false false bring_is move_is before_is is done = record {
    same = ap (λ (p : ℕ × Due). p.0) is;
    show = ap (λ (p : ℕ × Due). p.1) is;
    last = let least : street_count b.setup.code ≤ b.street = ltb-false b.street (street_count b.setup.code) before_is in omega (arith, least, within);
    quiet = due_here b.setup past b.street are up.early up.reached up.quiet within up.more false false bring_is move_is;
  }

  -- or up to its new due, which is then the showdown
  pub up_to_dealt : is_done b.setup past next.due ≡ true → StandsUpTo next past
  up_to_dealt done =
      let at : IsShowdown b next past = showdown_by (is_bring_in_due b.setup (moves_of past) b.street) (is_move_due b.setup (moves_of past) b.street) (nat_lt b.street (street_count b.setup.code)) refl refl refl to_is done in
      record {
        valid = subst (λ s. IsValid s) (sym comes.setup) up.valid;
        standing = comes.standing;
        early = early_up past b.street next.street later_street up.early;
        more = ap (λ s. nat_le (live_count s (moves_of past)) 1) comes.setup ∙ up.more;
        reached = omega (arith, up.reached, later_street);
        quiet = λ between low high. ap (λ s. due_on s past between) comes.setup ∙ up.quiet between low (let same : next.street ≡ b.street = at.same in omega (arith, high, same));
        come = subst (HasCome next.setup past next.street) (sym at.show) (
          at.same ∙ at.last ∙ sym (ap (λ s. street_count s.code) comes.setup),
          ap (λ s. due_on s past next.street) comes.setup ∙ ap (due_on b.setup past) at.same ∙ at.quiet,
        );
        done = ap (λ s. is_done s past next.due) comes.setup ∙ done;
        unshown = λ unended. unshown_still (sym (ap (λ s. is_settled s (moves_of past) (next.street, next.due)) comes.setup) ∙ unended);
      }

  -- what is complete after a deal or a draw is the showdown
  pub showdown_dealt : is_done b.setup past next.due ≡ true → next.due ≡ dues.Show
  showdown_dealt done = (showdown_by (is_bring_in_due b.setup (moves_of past) b.street) (is_move_due b.setup (moves_of past) b.street) (nat_lt b.street (street_count b.setup.code)) refl refl refl to_is done).show

-- the showdown is ended: the hand is over
pub show_ended : (b : BettingState) (past : Past) → StandsUpTo b past → b.due ≡ dues.Show → StandsFor (with_due b dues.Over) past
show_ended b past up due_is =
    let come : HasCome b.setup past b.street dues.Show = subst (HasCome b.setup past b.street) due_is up.come in
    let shown : is_show_due b.setup past ≡ false = not-true (is_show_due b.setup past) (sym (ap (is_done b.setup past) due_is) ∙ up.done) in
    let quiet : (between : ℕ) → newest_street past ≤ between → between ≤ street_count b.setup.code → due_on b.setup past between ≡ None =
    λ between low high. elim (cases_lt between b.street) [
      | inl before ↦ up.quiet between low before
      | inr reach ↦ let same : between ≡ b.street = omega (arith, reach, high, come.0) in ap (due_on b.setup past) same ∙ come.1
    ] in
    record {
      valid = up.valid;
      standing = standing_with_turn b.setup b.street b dues.Over b.next (moves_of past) up.standing;
      turn_is =
          quiet_is_showdown b.setup past up.more quiet (omega (arith, up.reached, come.0))
          ∙ ap (λ (s : Bool). (street_count b.setup.code, if s then dues.Show else dues.Over)) shown
          ∙ ap (λ (n : ℕ). (n, dues.Over)) (sym come.0);
      someone = one_of_several b.setup (moves_of past) up.more;
      early = up.early;
      unshown = λ other unended. absurd (true≢false (sym (ap (λ l. l && (true || (nat_le (able_count b.setup (moves_of past)) 1 && not (has_able_seat_to_call b.setup (moves_of past) b.street)))) (two_or_more (live_count b.setup (moves_of past)) up.more)) ∙ unended));
    }
