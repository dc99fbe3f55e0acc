-- Whose turn it is in a game that opens by up-cards.
use Rattle.std.proofs.Common.{◌≡◌, ℕ, ◌≤◌, Bool, true, false, ◌&&◌, ◌||◌, ◌==◌, not, nat_lt, nat_le, if◌then◌else◌, List, [], ◌∷◌, Option, Some, None, is_some, find, refl, sym, ap, subst, ◌∙◌, arith, IfSome}
use Rattle.std.specs.List.{list_any}
use Rattle.std.proofs.lemmas.Bool.{true≢false, and_parts, leb-true}
use Rattle.chip_ledger.specs.declared.numbers.Seat.{Seat}
use Rattle.chip_ledger.specs.LiveRow.{flag_of}
use Rattle.play_event.specs.declared.up_cards.UpRow.{UpRow}
use Rattle.play_event.specs.declared.reason.Due.{Due}
use Rattle.play_event.specs.declared.reason.Due.TheVariants as dues
use Rattle.play_event.specs.declared.limit.Opener.{Opener}
use Rattle.play_event.specs.declared.limit.Opener.TheVariants as openers
use Rattle.play_event.specs.Streets.{opener_of, is_stud_game, is_opened_by_up_cards}
use Rattle.play_event.specs.Past.{Past, Move, moves_of, moves_on}
use Rattle.play_event.specs.Seats.{can_act, all_seats, able_count}
use Rattle.play_event.specs.SeatSlots.{ups_of}
use Rattle.play_event.specs.Due.{is_move_due, is_bring_in_due, has_opened_betting}
use Rattle.play_event.specs.Openers.{InTurn, NoSeat, TheSeat, Undecided, in_turn, is_opener_before, seat_after, able_seats, up_cards_opener, has_unknown_up_card, opener_by}
use Rattle.card_set.specs.Known.{hides_card, known_among}
use Rattle.play_event.specs.PlayerToAct.{player_to_act, player_to_act_after, first_in_turn}
use Rattle.play_event.specs.Table.{up_cards}
use Rattle.betting_numbers.specs.declared.betting_state.BettingState.{BettingState}
use Rattle.betting_numbers.specs.TurnSaid.{turn_of}
use Rattle.betting_numbers.specs.Seen.{can_act_seen, to_call_seen, able_count_seen, has_to_move_seen, is_move_due_seen, after_last, last_seen, player_to_act_seen}
use Rattle.betting_numbers.specs.Standing.{StandsFor}
use Rattle.betting_numbers.specs.LegalMoves.{IsTurn}
use Rattle.play_event.specs.TurnTargets.{is_bet_due}
use Rattle.betting_numbers.specs.UpSeen.{HoldsUps, has_unknown_seen, has_unknown_up_card_seen, is_before_seen, is_opener_seen, known_opener_seen, up_opener_seen}
use Rattle.betting_numbers.proofs.Leading.{opens_known}
use Rattle.card_set.proofs.Counting.{counted_some}
use Rattle.betting_numbers.proofs.Bridge.{able_is, able_count_is, player_to_act_is, move_due_is, StartsIn}
use Rattle.card_set.proofs.Earliest.{first_exists}
use Rattle.play_event.proofs.OpenerOrder.{opens_not, opens_trans}
use Rattle.betting_numbers.proofs.InTurn.{Passed, passed, nobody_by, found_turn}
use Rattle.chip_ledger.proofs.SeatLists.{any_seats}
use Rattle.card_set.proofs.Finding.{find_agree, find-filter, found_passes}
use Rattle.play_laws.proofs.Unsettled.{move_is_due, due_after_cards, bring_in_by}
use Rattle.card_set.proofs.Any.{list_any-filter, list_any-weaker}
use Rattle.betting_numbers.proofs.FirstMoves.{all_true, no_moves, none_since_start, opener_turn}
use Rattle.chip_ledger.specs.SeatsSaid.{seat_said}
use Rattle.chip_ledger.specs.Seat.{IsSeatOf}

module _ (b : BettingState) (past : Past) (stands : StandsFor b past) (up : UpRow) (holds : HoldsUps b.setup up past) where
  unknown_is : has_unknown_up_card_seen b up ≡ has_unknown_up_card b.setup (up_cards b.setup.code past) (moves_of past)
  unknown_is =
      any_seats (has_unknown_seen b up) (λ seat. can_act b.setup (moves_of past) seat && list_any hides_card (up_cards b.setup.code past seat)) b.setup.stacks.seats
      (λ k low high. ap (λ a. a && list_any hides_card (ups_of up k)) (able_is b (moves_of past) stands.standing k (record { first = low; last = high })) ∙ ap (λ slots. can_act b.setup (moves_of past) k && list_any hides_card slots) (holds k low high))
      ∙ sym (list_any-filter (λ seat. list_any hides_card (up_cards b.setup.code past seat)) (can_act b.setup (moves_of past)) (all_seats b.setup))

  -- the other opens before this one, by the rules
  abbrev opens_earlier : Opener → (seat other : ℕ) → Bool
  opens_earlier opener seat other = is_opener_before opener (b.street == 1) (known_among (up_cards b.setup.code past other)) (known_among (up_cards b.setup.code past seat))

  before_is : (opener : Opener) (k other : ℕ) → IsSeatOf b.setup.stacks.seats k → IsSeatOf b.setup.stacks.seats other → is_before_seen opener b up k other ≡ (can_act b.setup (moves_of past) other && opens_earlier opener k other)
  before_is opener k other in_k in_other =
      ap (λ a. a && is_opener_before opener (b.street == 1) (known_among (ups_of up other)) (known_among (ups_of up k))) (able_is b (moves_of past) stands.standing other in_other)
      ∙ ap (λ slots. can_act b.setup (moves_of past) other && is_opener_before opener (b.street == 1) (known_among slots) (known_among (ups_of up k))) (holds other in_other.first in_other.last)
      ∙ ap (λ slots. can_act b.setup (moves_of past) other && is_opener_before opener (b.street == 1) (known_among (up_cards b.setup.code past other)) (known_among slots)) (holds k in_k.first in_k.last)

  opens_is : (opener : Opener) (k : ℕ) → IsSeatOf b.setup.stacks.seats k → is_opener_seen opener b up k ≡ (can_act b.setup (moves_of past) k && not (list_any (opens_earlier opener k) (able_seats b.setup (moves_of past))))
  opens_is opener k in_k =
      ap (λ a. a && not (list_any (is_before_seen opener b up k) (all_seats b.setup))) (able_is b (moves_of past) stands.standing k in_k)
      ∙ ap (λ o. can_act b.setup (moves_of past) k && not o) (
      any_seats (is_before_seen opener b up k) (λ other. can_act b.setup (moves_of past) other && opens_earlier opener k other) b.setup.stacks.seats (λ other low high. before_is opener k other in_k (record { first = low; last = high }))
      ∙ sym (list_any-filter (opens_earlier opener k) (can_act b.setup (moves_of past)) (all_seats b.setup))
      )

  -- the seat by the numbers is the seat by the rules
  abbrev opener_ruled : Opener → Option ℕ
  opener_ruled opener = find (λ seat. not (list_any (opens_earlier opener seat) (able_seats b.setup (moves_of past)))) (able_seats b.setup (moves_of past))

  up_opener_is : (opener : Opener) → up_opener_seen opener b up ≡ opener_ruled opener
  up_opener_is opener =
      find_agree (is_opener_seen opener b up) (λ seat. can_act b.setup (moves_of past) seat && not (list_any (opens_earlier opener seat) (able_seats b.setup (moves_of past)))) 1 b.setup.stacks.seats (λ k low high. opens_is opener k (record { first = low; last = omega (arith, high) }))
      ∙ sym (find-filter (can_act b.setup (moves_of past)) (λ seat. not (list_any (opens_earlier opener seat) (able_seats b.setup (moves_of past)))) (all_seats b.setup))

  -- among some seats that can act one opens
  one_opens_by : (opener : Opener) (ables : List ℕ) → list_any (λ x. true) ables ≡ true → is_some (find (λ seat. not (list_any (opens_earlier opener seat) ables)) ables) ≡ true
  one_opens_by opener [] some = absurd (true≢false (sym some))
  one_opens_by opener (m ∷ ys) some =
      first_exists (λ y x. opens_earlier opener x y)
      (λ x. opens_not opener (b.street == 1) (known_among (up_cards b.setup.code past x)))
      (λ x y z xy yz. opens_trans opener (b.street == 1) (known_among (up_cards b.setup.code past x)) (known_among (up_cards b.setup.code past y)) (known_among (up_cards b.setup.code past z)) xy yz)
      m ys

  and_true : (a : Bool) → (a && true) ≡ a
  and_true true = refl
  and_true false = refl

  weaken : (p q : ℕ → Bool) (xs : List ℕ) → list_any (λ x. p x && q x) xs ≡ true → list_any p xs ≡ true
  weaken p q xs some = list_any-weaker (λ x. p x && q x) p (λ x is. (and_parts (p x) (q x) is).0) xs some

  some_able : is_move_due_seen b ≡ true → list_any (can_act_seen b) (all_seats b.setup) ≡ true
  some_able some = weaken (can_act_seen b) (λ seat. if flag_of b.acted_since_raise seat then false else (nat_lt 0 (to_call_seen b seat) || nat_le 2 (able_count_seen b))) (all_seats b.setup) some

  one_opens : (opener : Opener) → is_move_due_seen b ≡ true → is_some (up_opener_seen opener b up) ≡ true
  one_opens opener some =
      ap is_some (up_opener_is opener)
      ∙ one_opens_by opener (able_seats b.setup (moves_of past)) (
      list_any-filter (λ x. true) (can_act b.setup (moves_of past)) (all_seats b.setup)
      ∙ any_seats (λ x. can_act b.setup (moves_of past) x && true) (can_act_seen b) b.setup.stacks.seats (λ k low high. and_true (can_act b.setup (moves_of past) k) ∙ sym (able_is b (moves_of past) stands.standing k (record { first = low; last = high })))
      ∙ some_able some
      )

module _ (b : BettingState) (past : Past) (stands : StandsFor b past) where
  -- if a bring-in is due and nobody moved, each seat that can act has to move
  bring_in_moves : b.due ≡ dues.BringIn → b.last ≡ None → is_move_due_seen b ≡ true
  bring_in_moves is last =
      let st = stands.standing in
      let due : is_bring_in_due b.setup (moves_of past) b.street ≡ true = bring_in_by b.street (is_bring_in_due b.setup (moves_of past) b.street) (is_move_due b.setup (moves_of past) b.street) (due_after_cards b.setup past b.street dues.BringIn (stands.turn_is ∙ ap (λ (d : Due). (b.street, d)) is) refl) in
      let parts = and_parts (is_stud_game b.setup.code && (b.street == 1) && nat_le 2 (able_count b.setup (moves_of past))) (not (list_any (λ (move : Move). has_opened_betting move.act) (moves_on b.street (moves_of past)))) due in
      let two : nat_le 2 (able_count_seen b) ≡ true = ap (nat_le 2) (able_count_is b (moves_of past) st) ∙ (and_parts (is_stud_game b.setup.code && (b.street == 1)) (nat_le 2 (able_count b.setup (moves_of past))) parts.0).1 in
      let empty : moves_on b.street (moves_of past) ≡ [] = no_moves (moves_on b.street (moves_of past)) (sym st.last ∙ ap (λ (o : Option Seat). seat_said o) last) in
      let enough : 2 ≤ able_count_seen b = leb-true 2 (able_count_seen b) two in
      sym (any_seats (can_act_seen b) (has_to_move_seen b) b.setup.stacks.seats (λ k low high. sym (
      ap (λ s. can_act_seen b k && (if s then false else (nat_lt 0 (to_call_seen b k) || nat_le 2 (able_count_seen b)))) (st.acted_since_raise k (record { first = low; last = high }) ∙ none_since_start b.setup (moves_of past) b.street k empty)
      ∙ ap (λ t. can_act_seen b k && (nat_lt 0 (to_call_seen b k) || t)) two
      ∙ all_true (can_act_seen b k) (nat_lt 0 (to_call_seen b k))
      )))
      ∙ counted_some (can_act_seen b) (all_seats b.setup) (omega (arith, enough))

  -- somebody has to move if betting is due
  pub bets_move : (due : Due) → b.due ≡ due → is_bet_due due ≡ true → (due ≡ dues.BringIn → b.last ≡ None) → is_move_due_seen b ≡ true
  bets_move dues.Move is bets last = move_due_is b (moves_of past) stands.standing ∙ move_is_due b.setup past b.street (stands.turn_is ∙ ap (λ (d : Due). (b.street, d)) is)
  bets_move dues.BringIn is bets last = bring_in_moves is (last refl)
  bets_move (dues.Deal street) is bets last = absurd (true≢false (sym bets))
  bets_move (dues.Draw street) is bets last = absurd (true≢false (sym bets))
  bets_move dues.Show is bets last = absurd (true≢false (sym bets))
  bets_move dues.Over is bets last = absurd (true≢false (sym bets))

  -- the player to act, whoever the opener is
  seen_turn : (opener : InTurn) → StartsIn b.setup (after_last (last_seen b) (seat_after b.setup) opener) → opener ≡ opener_by (opener_of b.setup.code) b.setup (up_cards b.setup.code past) (moves_of past) b.street → player_to_act_seen b opener ≡ player_to_act b.setup (up_cards b.setup.code past) (moves_of past) b.street
  seen_turn opener starts is = player_to_act_is b (moves_of past) stands.standing opener starts ∙ ap (λ (o : InTurn). player_to_act_after b.setup o (moves_of past) b.street) is

  somebody_from : (opener : ℕ) → IsSeatOf b.setup.stacks.seats opener → is_move_due_seen b ≡ true → player_to_act_seen b (TheSeat opener) ≡ NoSeat → ⊥
  somebody_from opener in_hand some none =
      let to : Passed b opener = passed b opener in_hand in
      nobody_by b.setup (has_to_move_seen b) (after_last (last_seen b) (seat_after b.setup) (TheSeat opener)) to.seat to.is to.in_hand some none

  -- after a move the opener does not matter
  pub turn_later : (last : Seat) → b.last ≡ Some last → (one : ℕ) → IsSeatOf b.setup.stacks.seats one → (found : Option ℕ) → in_turn found ≡ player_to_act_seen b (TheSeat one) → is_move_due_seen b ≡ true → IsTurn b past (turn_of found)
  turn_later last is one in_hand found found_is some =
      let opener = opener_by (opener_of b.setup.code) b.setup (up_cards b.setup.code past) (moves_of past) b.street in
      let said : last_seen b ≡ Some last.number = ap (λ (o : Option Seat). seat_said o) is in
      let same : after_last (last_seen b) (seat_after b.setup) (TheSeat one) ≡ after_last (last_seen b) (seat_after b.setup) opener =
      ap (λ (o : Option ℕ). after_last o (seat_after b.setup) (TheSeat one)) said ∙ sym (ap (λ (o : Option ℕ). after_last o (seat_after b.setup) opener) said) in
      let to : Passed b one = passed b one in_hand in
      found_turn found (player_to_act_seen b (TheSeat one)) found_is (somebody_from one in_hand some)
      ∙ ap (λ (t : InTurn). first_in_turn b.setup (has_to_move_seen b) t) same
      ∙ seen_turn opener (subst (StartsIn b.setup) same (subst (StartsIn b.setup) (sym to.is) to.in_hand)) refl

  module _ (up : UpRow) (holds : HoldsUps b.setup up past) (opener : Opener) (game : opener_of b.setup.code ≡ opener) where
    abbrev ruled_by : Opener → InTurn
    ruled_by o = opener_by o b.setup (up_cards b.setup.code past) (moves_of past) b.street

    -- by up-cards that are known
    known_by : (o : Opener) → opener_of b.setup.code ≡ o → is_opened_by_up_cards o ≡ true → has_unknown_up_card b.setup (up_cards b.setup.code past) (moves_of past) ≡ false → ruled_by o ≡ in_turn (opener_ruled b past stands up holds o)
    known_by openers.LowUp is cards known =
        ap (λ u. if u then Undecided else in_turn (up_cards_opener b.setup (up_cards b.setup.code past) (moves_of past) b.street)) known
        ∙ ap (λ (o : Opener). in_turn (opener_ruled b past stands up holds o)) is
    known_by openers.HighUp is cards known =
        ap (λ u. if u then Undecided else in_turn (up_cards_opener b.setup (up_cards b.setup.code past) (moves_of past) b.street)) known
        ∙ ap (λ (o : Opener). in_turn (opener_ruled b past stands up holds o)) is
    known_by openers.Blinds is cards known = absurd (true≢false (sym cards))

    unknown_by_cards : (o : Opener) → is_opened_by_up_cards o ≡ true → has_unknown_up_card b.setup (up_cards b.setup.code past) (moves_of past) ≡ true → ruled_by o ≡ Undecided
    unknown_by_cards openers.LowUp cards unknown = ap (λ u. if u then Undecided else in_turn (up_cards_opener b.setup (up_cards b.setup.code past) (moves_of past) b.street)) unknown
    unknown_by_cards openers.HighUp cards unknown = ap (λ u. if u then Undecided else in_turn (up_cards_opener b.setup (up_cards b.setup.code past) (moves_of past) b.street)) unknown
    unknown_by_cards openers.Blinds cards unknown = absurd (true≢false (sym cards))

    -- an up-card is unknown, and nobody moved
    turn_unknown : is_opened_by_up_cards opener ≡ true → b.last ≡ None → true ≡ has_unknown_up_card_seen b up → IsTurn b past Undecided
    turn_unknown cards last unknown =
        let said : last_seen b ≡ None = ap (λ (o : Option Seat). seat_said o) last in
        let at : after_last (last_seen b) (seat_after b.setup) Undecided ≡ Undecided = ap (λ (o : Option ℕ). after_last o (seat_after b.setup) Undecided) said in
        sym (ap (λ (t : InTurn). first_in_turn b.setup (has_to_move_seen b) t) at)
        ∙ seen_turn Undecided (subst (StartsIn b.setup) (sym at) _) (
        sym (unknown_by_cards opener cards (sym (unknown ∙ unknown_is b past stands up holds)))
        ∙ ap ruled_by (sym game)
        )

    -- all are known, and this seat opens
    turn_known : is_opened_by_up_cards opener ≡ true → false ≡ has_unknown_up_card_seen b up → (first : ℕ) → IsSeatOf b.setup.stacks.seats first → Some first ≡ up_opener_seen opener b up → (found : Option ℕ) → in_turn found ≡ player_to_act_seen b (TheSeat first) → is_move_due_seen b ≡ true → IsTurn b past (turn_of found)
    turn_known cards known first in_hand opens found found_is some =
        let to : Passed b first = passed b first in_hand in
        found_turn found (player_to_act_seen b (TheSeat first)) found_is (somebody_from first in_hand some)
        ∙ seen_turn (TheSeat first) (subst (StartsIn b.setup) (sym to.is) to.in_hand) (
        ap in_turn (opens ∙ up_opener_is b past stands up holds opener)
        ∙ sym (known_by opener game cards (sym (known ∙ unknown_is b past stands up holds)))
        ∙ ap ruled_by (sym game)
        )

    -- some seat opens
    turn_never : {A : Type 0} → None ≡ up_opener_seen opener b up → is_move_due_seen b ≡ true → A
    turn_never none some = absurd (true≢false (sym (one_opens b past stands up holds opener some) ∙ ap is_some (sym none)))

    -- this seat opens if all are known
    turn_opened : is_opened_by_up_cards opener ≡ true → b.last ≡ None → (first : ℕ) → IsSeatOf b.setup.stacks.seats first → Some first ≡ known_opener_seen opener b up → is_move_due_seen b ≡ true → IsTurn b past (TheSeat first)
    turn_opened cards last first in_hand opens some =
        let parts = opens_known opener b up first opens in
        let able : can_act_seen b first ≡ true = (and_parts (can_act_seen b first) (not (list_any (is_before_seen opener b up first) (all_seats b.setup))) (found_passes (is_opener_seen opener b up) (all_seats b.setup) first (sym parts.1))).0 in
        turn_known cards parts.0 first in_hand parts.1 (Some first) (opener_turn b past stands last first in_hand able some) some

    unopened_by : (unknown : Bool) → unknown ≡ has_unknown_up_card_seen b up → is_opened_by_up_cards opener ≡ true → b.last ≡ None → None ≡ (if unknown then None else up_opener_seen opener b up) → is_move_due_seen b ≡ true → IsTurn b past Undecided
    unopened_by true is cards last none some = turn_unknown cards last is
    unopened_by false is cards last none some = turn_never none some

    -- it is not known who opens
    turn_unopened : is_opened_by_up_cards opener ≡ true → b.last ≡ None → None ≡ known_opener_seen opener b up → is_move_due_seen b ≡ true → IsTurn b past Undecided
    turn_unopened = unopened_by (has_unknown_up_card_seen b up) refl

    -- before the first move of the street
    pub turn_first : is_opened_by_up_cards opener ≡ true → b.last ≡ None → is_move_due_seen b ≡ true → (found : Option Seat) → IfSome found (λ seat. seat.number ≤ b.setup.stacks.seats) → seat_said found ≡ known_opener_seen opener b up → IsTurn b past (turn_of (seat_said found))
    turn_first cards last some None in_hand is = turn_unopened cards last is some
    turn_first cards last some (Some seat) in_hand is = turn_opened cards last seat.number (record { first = seat.first; last = in_hand }) is some
