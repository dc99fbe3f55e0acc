-- If betting is due, the hand is not settled.
use Rattle.std.proofs.Common.{◌≡◌, ℕ, Bool, true, false, ◌&&◌, ◌||◌, ◌==◌, not, nat_lt, nat_le, if◌then◌else◌, inl, inr, ◌⊎◌, List, refl, sym, ap, ◌∙◌, Some}
use Rattle.std.proofs.lemmas.Bool.{and_parts, true≢false}
use Rattle.std.specs.List.{list_any}
use Rattle.card_set.proofs.Any.{list_any-weaker}
use Rattle.play_event.proofs.StreetLaws.{due_is_first}
use Rattle.play_event.specs.Dealing.{is_draw_due}
use Rattle.play_event.specs.Due.{is_bring_in_due, is_move_due, has_to_move, has_acted_since_raise, is_settled, has_able_seat_to_call, has_opened_betting, turn, due_on}
use Rattle.play_event.specs.Laws.{IsFirstStreet}
use Rattle.play_event.specs.Past.{Move, moves_on, Past, moves_of, newest_street}
use Rattle.play_event.specs.CurrentBet.{to_call}
use Rattle.play_event.specs.Seats.{can_act, live_count, able_count, all_seats}
use Rattle.play_event.specs.Streets.{is_stud_game}
use Rattle.play_event.specs.declared.reason.Due.TheVariants as dues
use Rattle.play_event.specs.declared.reason.Due.{Due}
use Rattle.play_event.specs.declared.setup.Setup.{Setup}
use Rattle.play_laws.proofs.TurnAfter.{AreDealt, cards_are_dealt, due_by}
use Rattle.play_event.specs.TurnTargets.{is_bet_due}
use Rattle.card_set.proofs.Numbers.{many_not_few}
use Rattle.play_event.proofs.FloorLaws.{bet_unfinished}

-- the hand is not settled if betting is due
owes_by : (able since owes : Bool) (many : Bool) → many ≡ false → (able && (if since then false else (owes || many))) ≡ true → (able && owes) ≡ true
owes_by true true owes many none is = absurd (true≢false (sym is))
owes_by true false true many none is = refl
owes_by true false false many none is = absurd (true≢false (sym is ∙ none))
owes_by false since owes many none is = absurd (true≢false (sym is))

settled_by : (live few owes : Bool) → (few ≡ false) ⊎ (owes ≡ true) → (live && (false || (few && not owes))) ≡ false
settled_by true few owes (inl is) = ap (λ f. f && not owes) is
settled_by true true owes (inr is) = ap not is
settled_by true false owes (inr is) = refl
settled_by false few owes is = refl

moving_by : (setup : Setup) (moves : List Move) (street : ℕ) (many : Bool) → nat_le 2 (able_count setup moves) ≡ many → is_move_due setup moves street ≡ true → (nat_le (able_count setup moves) 1 ≡ false) ⊎ (has_able_seat_to_call setup moves street ≡ true)
moving_by setup moves street true many is = inl (many_not_few (able_count setup moves) many)
moving_by setup moves street false many is =
    inr (list_any-weaker (has_to_move setup moves street) (λ seat. can_act setup moves seat && nat_lt 0 (to_call setup moves street seat))
    (λ seat has. owes_by (can_act setup moves seat) (has_acted_since_raise setup moves street seat) (nat_lt 0 (to_call setup moves street seat)) (nat_le 2 (able_count setup moves)) many has)
    (all_seats setup) is)

pub unsettled_by_move : (setup : Setup) (moves : List Move) (street : ℕ) → is_move_due setup moves street ≡ true → is_settled setup moves (street, dues.Move) ≡ false
unsettled_by_move setup moves street is =
    settled_by (nat_le 2 (live_count setup moves)) (nat_le (able_count setup moves) 1) (has_able_seat_to_call setup moves street) (moving_by setup moves street (nat_le 2 (able_count setup moves)) refl is)

pub unsettled_by_bring_in : (setup : Setup) (moves : List Move) (street : ℕ) → is_bring_in_due setup moves street ≡ true → is_settled setup moves (street, dues.BringIn) ≡ false
unsettled_by_bring_in setup moves street is =
    let opened = not (list_any (λ (move : Move). has_opened_betting move.act) (moves_on street moves)) in
    let parts = and_parts (is_stud_game setup.code && (street == 1) && nat_le 2 (able_count setup moves)) opened is in
    let parts2 = and_parts (is_stud_game setup.code && (street == 1)) (nat_le 2 (able_count setup moves)) parts.0 in
    settled_by (nat_le 2 (live_count setup moves)) (nat_le (able_count setup moves) 1) (has_able_seat_to_call setup moves street) (inl (many_not_few (able_count setup moves) parts2.1))

move_by : (street : ℕ) (bring_in move : Bool) → due_by street false false bring_in move ≡ Some dues.Move → move ≡ true
move_by street true move is = absurd cc
move_by street false true is = refl
move_by street false false is = absurd cc

pub bring_in_by : (street : ℕ) (bring_in move : Bool) → due_by street false false bring_in move ≡ Some dues.BringIn → bring_in ≡ true
bring_in_by street true move is = refl
bring_in_by street false true is = absurd cc
bring_in_by street false false is = absurd cc

module _ (setup : Setup) (past : Past) (street : ℕ) where
  pub due_after_cards : (due : Due) → turn setup past ≡ (street, due) → is_bet_due due ≡ true → due_by street false false (is_bring_in_due setup (moves_of past) street) (is_move_due setup (moves_of past) street) ≡ Some due
  due_after_cards due is bets =
      let are : AreDealt setup past street = cards_are_dealt setup past street due is bets (bet_unfinished due bets) in
      let first : IsFirstStreet (due_on setup past) (newest_street past) street due = due_is_first setup past street due is (bet_unfinished due bets) in
      sym (
      ap (λ d. due_by street d (is_draw_due setup past street) (is_bring_in_due setup (moves_of past) street) (is_move_due setup (moves_of past) street)) are.dealt
      ∙ ap (λ d. due_by street false d (is_bring_in_due setup (moves_of past) street) (is_move_due setup (moves_of past) street)) are.drawn
      )
      ∙ first.is_due

  pub move_is_due : turn setup past ≡ (street, dues.Move) → is_move_due setup (moves_of past) street ≡ true
  move_is_due is = move_by street (is_bring_in_due setup (moves_of past) street) (is_move_due setup (moves_of past) street) (due_after_cards dues.Move is refl)

  pub bring_in_is_due : turn setup past ≡ (street, dues.BringIn) → is_stud_game setup.code ≡ true
  bring_in_is_due is =
      let due : is_bring_in_due setup (moves_of past) street ≡ true = bring_in_by street (is_bring_in_due setup (moves_of past) street) (is_move_due setup (moves_of past) street) (due_after_cards dues.BringIn is refl) in
      let opened = not (list_any (λ (move : Move). has_opened_betting move.act) (moves_on street (moves_of past))) in
      let parts = and_parts (is_stud_game setup.code && (street == 1) && nat_le 2 (able_count setup (moves_of past))) opened due in
      let parts2 = and_parts (is_stud_game setup.code && (street == 1)) (nat_le 2 (able_count setup (moves_of past))) parts.0 in
      (and_parts (is_stud_game setup.code) (street == 1) parts2.0).0

  pub unsettled : (due : Due) → turn setup past ≡ (street, due) → is_bet_due due ≡ true → is_settled setup (moves_of past) (street, due) ≡ false
  unsettled dues.Move is bets = unsettled_by_move setup (moves_of past) street (move_by street (is_bring_in_due setup (moves_of past) street) (is_move_due setup (moves_of past) street) (due_after_cards dues.Move is bets))
  unsettled dues.BringIn is bets = unsettled_by_bring_in setup (moves_of past) street (bring_in_by street (is_bring_in_due setup (moves_of past) street) (is_move_due setup (moves_of past) street) (due_after_cards dues.BringIn is bets))
  unsettled (dues.Deal on) is bets = absurd (true≢false (sym bets))
  unsettled (dues.Draw on) is bets = absurd (true≢false (sym bets))
  unsettled dues.Show is bets = absurd (true≢false (sym bets))
  unsettled dues.Over is bets = absurd (true≢false (sym bets))
