-- Whose turn it is, and the answer to an event if that is known and if it is not.
use Rattle.std.proofs.Common.{nat_lt, min, ◌≡◌, ℕ, ◌+◌, ◌-◌, ◌≤◌, Bool, true, false, ◌&&◌, ◌==◌, not, List, ◌∷◌, ◌++◌, if◌then◌else◌, Option, Some, None, is_some, find, refl, sym, ap, subst, ◌∙◌, arith}
use Rattle.std.specs.List.{list_any, range_with_len}
use Rattle.std.proofs.lemmas.Bool.{eqb-true, ltb-false, true≢false, eqb-false}
use Rattle.chip_ledger.specs.declared.numbers.Seat.{Seat}
use Rattle.play_event.specs.declared.reason.Due.{Due}
use Rattle.play_event.specs.declared.reason.Due.TheVariants as dues
use Rattle.play_event.specs.declared.reason.Illegal.{Illegal}
use Rattle.play_event.specs.declared.setup.Setup.{Setup}
use Rattle.play_event.specs.declared.limit.Opener.TheVariants as openers
use Rattle.play_event.specs.Streets.{opener_of, limit_of, is_stud_game, is_opened_by_up_cards}
use Rattle.play_event.specs.Said.{Said}
use Rattle.play_event.specs.Past.{Past, Move, moves_of, Moved, Folded, Called, Raised, BroughtIn}
use Rattle.play_event.specs.Seats.{all_seats}
use Rattle.play_event.specs.Due.{turn}
use Rattle.play_event.specs.Openers.{InTurn, NoSeat, TheSeat, Undecided, in_turn, seat_after, blinds_opener, opener_by}
use Rattle.play_event.specs.PlayerToAct.{player_to_act, player_to_act_after, first_in_turn, seats_from}
use Rattle.play_event.specs.Table.{up_cards}
use Rattle.play_event.specs.Reasons.{why, first_reason, all_reasons}
use Rattle.betting_numbers.specs.declared.betting_state.BettingState.{BettingState}
use Rattle.play_laws.specs.Dues.{is_move}
use Rattle.play_event.specs.TurnTargets.{is_bet_due}
use Rattle.betting_numbers.specs.TurnSaid.{turn_of}
use Rattle.betting_numbers.specs.Seen.{after_last, last_seen, player_to_act_seen, has_to_move_seen, is_move_due_seen, to_call_seen, all_in_seen}
use Rattle.betting_numbers.specs.Standing.{Standing, StandsFor}
use Rattle.chip_ledger.specs.SeatRow.{amount_of}
use Rattle.play_event.specs.declared.reason.Illegal.TheVariants as reasons
use Rattle.play_event.specs.Chips.{street_chips}
use Rattle.play_event.specs.CurrentBet.{current_bet, starting_bet}
use Rattle.play_event.specs.Amounts.{call_target, raise_target, bring_in_target}
use Rattle.play_event.specs.MoveReasons.{actor_of, is_other_seat}
use Rattle.play_event.specs.Scripts.{with_event, resolved_on, resolved_by}
use Rattle.betting_numbers.specs.LegalMoves.{IsLegalMove, IsTurn, move_of}
use Rattle.betting_numbers.proofs.Bridge.{current_bet_is, all_in_is, player_to_act_is, move_due_is, StartsIn}
use Rattle.betting_numbers.specs.Why.{cannot_act_seen, unknown_reason, bring_in_seen, bring_in_reason, ceiling_seen, full_raise_targets_seen, greatest_seen, is_legal_seen, is_another, call_seen, stated_reason, target_seen, may_raise_seen, raise_to_reason, now_reason, fold_reason, call_reason, raise_reason, floor_by}
use Rattle.betting_numbers.proofs.WhyMove.{why_fold, why_call, why_bring_in, fold_undecided, call_undecided, bring_in_undecided, able_anywhere}
use Rattle.betting_numbers.proofs.WhyRaise.{why_raise, raise_undecided, target_is}
use Rattle.play_event.specs.declared.event.Spelled.{Spelled}
use Rattle.play_event.specs.Said as said
use Rattle.play_event.specs.declared.limit.Limit.{Limit}
use Rattle.play_event.specs.declared.limit.Limit.TheVariants as limits
use Rattle.card_set.proofs.Finding.{some_found, range_split}
use Rattle.play_laws.proofs.Unsettled.{move_is_due, bring_in_is_due}
use Rattle.std.proofs.lemmas.List.Folds.{list_any-append}
use Rattle.std.proofs.Math.Bool.{or_comm}
use Rattle.chip_ledger.specs.SeatsSaid.{seat_said}
use Rattle.play_event.specs.Targets.{greatest_by}
use Rattle.chip_ledger.specs.Seat.{IsSeatOf}

-- why an event is refused when this is due
pub why_where : (b : BettingState) (past : Past) (event : Said) (due : Due) → StandsFor b past → b.due ≡ due → why b.setup b.rules past event ≡ first_reason (all_reasons b.setup b.rules past (b.street, due) event)
unfolding why
why_where b past event due stands is =
    ap (λ now. first_reason (all_reasons b.setup b.rules past now event)) stands.turn_is
    ∙ ap (λ d. first_reason (all_reasons b.setup b.rules past (b.street, d) event)) is

-- if a seat passes, one is found from whichever seat the search starts
pub found_some : (setup : Setup) (p : ℕ → Bool) (start : ℕ) → IsSeatOf setup.stacks.seats start → is_some (find p (seats_from setup start)) ≡ list_any p (all_seats setup)
found_some setup p start in_hand =
    let n = setup.stacks.seats in
    let low : 1 ≤ start = in_hand.first in
    let high : start ≤ n = in_hand.last in
    let whole : n ≡ (start - 1) + (n + 1 - start) = omega (arith, low, high) in
    let from : 1 + (start - 1) ≡ start = omega (arith, low) in
    some_found p (seats_from setup start)
    ∙ list_any-append p (range_with_len start (n + 1 - start)) (range_with_len 1 (start - 1))
    ∙ or_comm (list_any p (range_with_len start (n + 1 - start))) (list_any p (range_with_len 1 (start - 1)))
    ∙ sym (
    ap (λ k. list_any p (range_with_len 1 k)) whole
    ∙ ap (list_any p) (range_split 1 (start - 1) (n + 1 - start))
    ∙ ap (λ k. list_any p (range_with_len 1 (start - 1) ++ range_with_len k (n + 1 - start))) from
    ∙ list_any-append p (range_with_len 1 (start - 1)) (range_with_len start (n + 1 - start))
    )

pub found_round : (setup : Setup) (p : ℕ → Bool) (start : ℕ) → IsSeatOf setup.stacks.seats start → list_any p (all_seats setup) ≡ true → is_some (find p (seats_from setup start)) ≡ true
found_round setup p start in_hand some = found_some setup p start in_hand ∙ some

none_is_nobody : (found : Option ℕ) → in_turn found ≡ NoSeat → is_some found ≡ true → ⊥
none_is_nobody None is some = true≢false (sym some)
none_is_nobody (Some seat) is some = cc

pub nobody_by : (setup : Setup) (p : ℕ → Bool) (from : InTurn) (seat : ℕ) → from ≡ TheSeat seat → IsSeatOf setup.stacks.seats seat → list_any p (all_seats setup) ≡ true → first_in_turn setup p from ≡ NoSeat → ⊥
nobody_by setup p from seat is in_hand some none =
    none_is_nobody (find p (seats_from setup seat)) (sym (ap (first_in_turn setup p) is) ∙ none) (found_round setup p seat in_hand some)

-- the seat to which the turn is passed
pub record Passed (b : BettingState) (opener : ℕ) : Type 0 where
  pub seat : ℕ
  pub is : after_last (last_seen b) (seat_after b.setup) (TheSeat opener) ≡ TheSeat seat
  pub in_hand : IsSeatOf b.setup.stacks.seats seat

-- the seat after a seat is of the hand
pub after_in_by : (setup : Setup) (seat : ℕ) (last : Bool) → (seat == setup.stacks.seats) ≡ last → IsSeatOf setup.stacks.seats seat → IsSeatOf setup.stacks.seats (if last then 1 else seat + 1)
after_in_by setup seat true is in_hand = record { first = omega arith; last = omega (arith, in_hand.first, in_hand.last) }
after_in_by setup seat false is in_hand =
    let other : seat ≡ setup.stacks.seats → ⊥ = eqb-false seat setup.stacks.seats is in
    record { first = omega arith; last = omega (arith, in_hand.last, other) }

passed_by : (b : BettingState) (opener : ℕ) → IsSeatOf b.setup.stacks.seats opener → (last : Option Seat) → b.last ≡ last → Passed b opener
passed_by b opener in_hand None is = record { seat = opener; is = ap (λ (o : Option Seat). after_last (seat_said o) (seat_after b.setup) (TheSeat opener)) is; in_hand = in_hand }
passed_by b opener in_hand (Some s) is = record {
  seat = seat_after b.setup s.number;
  is = ap (λ (o : Option Seat). after_last (seat_said o) (seat_after b.setup) (TheSeat opener)) is;
  in_hand = after_in_by b.setup s.number (s.number == b.setup.stacks.seats) refl (record { first = s.first; last = b.last_in s is });
}

pub passed : (b : BettingState) (opener : ℕ) → IsSeatOf b.setup.stacks.seats opener → Passed b opener
passed b opener in_hand = passed_by b opener in_hand b.last refl

-- it is some seat's turn if some seat has a move to make
same_found : (found other : Option ℕ) → in_turn found ≡ in_turn other → is_some found ≡ is_some other
same_found None None same = refl
same_found None (Some seat) same = absurd (cc)
same_found (Some seat) None same = absurd (cc)
same_found (Some seat) (Some other) same = refl

pub turn_found : (b : BettingState) (opener : ℕ) → IsSeatOf b.setup.stacks.seats opener → (found : Option ℕ) → in_turn found ≡ player_to_act_seen b (TheSeat opener) → is_some found ≡ is_move_due_seen b
turn_found b opener in_hand found is =
    let to : Passed b opener = passed b opener in_hand in
    same_found found (find (has_to_move_seen b) (seats_from b.setup to.seat)) (is ∙ ap (first_in_turn b.setup (has_to_move_seen b)) to.is)
    ∙ found_some b.setup (has_to_move_seen b) to.seat to.in_hand

pub seat_found : (found : Option Seat) → is_some found ≡ is_some (seat_said found)
seat_found None = refl
seat_found (Some seat) = refl

-- what is due when an event may come
pub move_now : (due : Due) → now_reason true false due ≡ None → due ≡ dues.Move
move_now dues.Move is = refl
move_now dues.Over is = absurd (cc)
move_now (dues.Deal street) is = absurd (cc)
move_now (dues.Draw street) is = absurd (cc)
move_now dues.BringIn is = absurd (cc)
move_now dues.Show is = absurd (cc)

pub bring_in_now : (due : Due) → now_reason false true due ≡ None → due ≡ dues.BringIn
bring_in_now dues.BringIn is = refl
bring_in_now dues.Over is = absurd (cc)
bring_in_now (dues.Deal street) is = absurd (cc)
bring_in_now (dues.Draw street) is = absurd (cc)
bring_in_now dues.Move is = absurd (cc)
bring_in_now dues.Show is = absurd (cc)

-- a bring-in is never due in a game with blinds
no_bring_in : (b : BettingState) (past : Past) → StandsFor b past → opener_of b.setup.code ≡ openers.Blinds → b.due ≡ dues.BringIn → ⊥
no_bring_in b past stands game due_is =
    let stud : is_stud_game b.setup.code ≡ true = bring_in_is_due b.setup past b.street (stands.turn_is ∙ ap (λ (d : Due). (b.street, d)) due_is) in
    true≢false (sym stud ∙ ap is_opened_by_up_cards game)

-- somebody has to move if betting is due in a game with blinds
bets_are_moves : (b : BettingState) (past : Past) → StandsFor b past → opener_of b.setup.code ≡ openers.Blinds → (due : Due) → b.due ≡ due → is_bet_due due ≡ true → is_move_due_seen b ≡ true
bets_are_moves b past stands game dues.Move is bets = move_due_is b (moves_of past) stands.standing ∙ move_is_due b.setup past b.street (stands.turn_is ∙ ap (λ (d : Due). (b.street, d)) is)
bets_are_moves b past stands game dues.BringIn is bets = absurd (no_bring_in b past stands game is)
bets_are_moves b past stands game (dues.Deal street) is bets = absurd (true≢false (sym bets))
bets_are_moves b past stands game (dues.Draw street) is bets = absurd (true≢false (sym bets))
bets_are_moves b past stands game dues.Show is bets = absurd (true≢false (sym bets))
bets_are_moves b past stands game dues.Over is bets = absurd (true≢false (sym bets))

-- it is the turn of a seat that is found
pub found_turn : (found : Option ℕ) (in_seen : InTurn) → in_turn found ≡ in_seen → (in_seen ≡ NoSeat → ⊥) → turn_of found ≡ in_seen
found_turn None in_seen is some = absurd (some (sym is))
found_turn (Some seat) in_seen is some = is

module _ (b : BettingState) (past : Past) (stands : StandsFor b past) (opener : ℕ) (in_hand : IsSeatOf b.setup.stacks.seats opener) where
  passed_to : Passed b opener
  passed_to = passed b opener in_hand

  -- somebody has to move
  pub somebody : is_move_due_seen b ≡ true → player_to_act_seen b (TheSeat opener) ≡ NoSeat → ⊥
  somebody some none = nobody_by b.setup (has_to_move_seen b) (after_last (last_seen b) (seat_after b.setup) (TheSeat opener)) passed_to.seat passed_to.is passed_to.in_hand some none

  -- the seat that the numbers name is the player to act by the rules
  pub player_to_act_blinds : opener ≡ blinds_opener b.setup b.street → opener_of b.setup.code ≡ openers.Blinds → player_to_act_seen b (TheSeat opener) ≡ player_to_act b.setup (up_cards b.setup.code past) (moves_of past) b.street
  player_to_act_blinds opens game =
      player_to_act_is b (moves_of past) stands.standing (TheSeat opener) (subst (StartsIn b.setup) (sym passed_to.is) passed_to.in_hand)
      ∙ ap (λ (o : ℕ). player_to_act_after b.setup (TheSeat o) (moves_of past) b.street) opens
      ∙ sym (ap (λ o. player_to_act_after b.setup (opener_by o b.setup (up_cards b.setup.code past) (moves_of past) b.street) (moves_of past) b.street) game)

  pub turn_blinds : (found : Option ℕ) → in_turn found ≡ player_to_act_seen b (TheSeat opener) → is_bet_due b.due ≡ true → opener ≡ blinds_opener b.setup b.street → opener_of b.setup.code ≡ openers.Blinds → IsTurn b past (turn_of found)
  turn_blinds found is bets opens game = found_turn found (player_to_act_seen b (TheSeat opener)) is (somebody (bets_are_moves b past stands game b.due refl bets)) ∙ player_to_act_blinds opens game

-- if there is no reason against it, the player to act moves
actor_by : (named : Option ℕ) (m : ℕ) (another : Bool) → is_another named m ≡ another → another ≡ false → actor_of named (TheSeat m) ≡ m
actor_by None m another is none = refl
actor_by (Some seat) m another is none = eqb-true seat m (same_by (seat == m) (is ∙ none))
  where
    same_by : (b : Bool) → not b ≡ false → b ≡ true
    same_by true e = refl
    same_by false e = absurd cc

passes_by : (another : Bool) (rest : Option Illegal) → (if another then Some reasons.WrongSeat else rest) ≡ None → another ≡ false
passes_by true rest is = absurd cc
passes_by false rest is = refl

fold_actor : (b : BettingState) (named : Option ℕ) (m : ℕ) → fold_reason b named m ≡ None → actor_of named (TheSeat m) ≡ m
fold_actor b named m none =
    actor_by named m (is_another named m) refl (passes_by (is_another named m) (if not b.rules.free_fold && (to_call_seen b m == 0) then Some reasons.NothingToCall else None) none)

call_actor : (b : BettingState) (named stated : Option ℕ) (m : ℕ) → call_reason b named stated m ≡ None → actor_of named (TheSeat m) ≡ m
call_actor b named stated m none =
    actor_by named m (is_another named m) refl (passes_by (is_another named m) (stated_reason stated (call_seen b m - amount_of b.bets m)) none)

raise_actor : (limit : Limit) (b : BettingState) (floor : ℕ) (named : Option ℕ) (amount : Spelled) (m : ℕ) → raise_reason limit b floor named amount m ≡ None → actor_of named (TheSeat m) ≡ m
raise_actor limit b floor named amount m none =
    actor_by named m (is_another named m) refl (passes_by (is_another named m) (raise_to_reason limit b floor m (target_seen b m amount)) none)

-- the target of a legal raise is at most all-in
reach_by : (closed small big : Bool) → (if closed then Some reasons.RaiseClosed else if small then Some reasons.RaiseTooSmall else if big then Some reasons.RaiseTooBig else None) ≡ None → big ≡ false
reach_by true small big is = absurd cc
reach_by false true big is = absurd cc
reach_by false false true is = absurd cc
reach_by false false false is = refl

rest_by : (another : Bool) (rest : Option Illegal) → (if another then Some reasons.WrongSeat else rest) ≡ None → rest ≡ None
rest_by true rest is = absurd cc
rest_by false rest is = is

greatest_within : (limit : Limit) (all_in ceiling : ℕ) (full_raise_targets : List ℕ) → greatest_by limit all_in ceiling full_raise_targets ≤ all_in
greatest_within limits.No all_in ceiling full_raise_targets = omega arith
greatest_within limits.Pot all_in ceiling full_raise_targets = omega arith
greatest_within limits.Fixed all_in ceiling full_raise_targets = omega arith

pub raise_reach : (limit : Limit) (b : BettingState) (floor : ℕ) (named : Option ℕ) (amount : Spelled) (m : ℕ) → None ≡ raise_reason limit b floor named amount m → target_seen b m amount ≤ all_in_seen b m
raise_reach limit b floor named amount m none =
    let most : target_seen b m amount ≤ greatest_seen limit b m =
    ltb-false (greatest_seen limit b m) (target_seen b m amount)
    (reach_by (not (may_raise_seen limit b m)) (not (is_legal_seen limit b floor m (target_seen b m amount)) && nat_lt (target_seen b m amount) (greatest_seen limit b m)) (nat_lt (greatest_seen limit b m) (target_seen b m amount))
    (rest_by (is_another named m) (raise_to_reason limit b floor m (target_seen b m amount)) (sym none))) in
    omega (arith, most, greatest_within limit (all_in_seen b m) (ceiling_seen b m) (full_raise_targets_seen b))

-- the target of a call is that of the rules
call_is : (b : BettingState) (moves : List Move) → Standing b.setup b.street b moves → (m : ℕ) → IsSeatOf b.setup.stacks.seats m → call_seen b m ≡ call_target b.setup moves b.street m
call_is b moves st m in_m =
    ap (λ p. min p (all_in_seen b m)) (current_bet_is b moves st)
    ∙ ap (λ a. min (current_bet b.setup moves b.street) a) (all_in_is b moves st m in_m)

-- the target of a bring-in is that of the rules
bring_in_is : (b : BettingState) (moves : List Move) → Standing b.setup b.street b moves → (m : ℕ) → IsSeatOf b.setup.stacks.seats m → bring_in_seen b m ≡ bring_in_target b.setup moves b.street m
bring_in_is b moves st m in_m = ap (λ a. min b.setup.bring_in a) (all_in_is b moves st m in_m)

bring_in_actor : (named : Option ℕ) (m : ℕ) → bring_in_reason named m ≡ None → actor_of named (TheSeat m) ≡ m
bring_in_actor named m none = actor_by named m (is_another named m) refl (passes_by (is_another named m) None none)

fold_not_now : (b : BettingState) (past : Past) (named : Option ℕ) (reason : Illegal) (due : Due) → now_reason true false due ≡ Some reason → first_reason (all_reasons b.setup b.rules past (b.street, due) (said.Fold named)) ≡ Some reason
fold_not_now b past named reason dues.Move is = absurd (cc)
fold_not_now b past named reason dues.Over is = is
fold_not_now b past named reason (dues.Deal street) is = is
fold_not_now b past named reason (dues.Draw street) is = is
fold_not_now b past named reason dues.BringIn is = is
fold_not_now b past named reason dues.Show is = is

call_not_now : (b : BettingState) (past : Past) (named stated : Option ℕ) (reason : Illegal) (due : Due) → now_reason true false due ≡ Some reason → first_reason (all_reasons b.setup b.rules past (b.street, due) (said.Call named stated)) ≡ Some reason
call_not_now b past named stated reason dues.Move is = absurd (cc)
call_not_now b past named stated reason dues.Over is = is
call_not_now b past named stated reason (dues.Deal street) is = is
call_not_now b past named stated reason (dues.Draw street) is = is
call_not_now b past named stated reason dues.BringIn is = is
call_not_now b past named stated reason dues.Show is = is

raise_not_now : (b : BettingState) (past : Past) (named : Option ℕ) (amount : Spelled) (reason : Illegal) (due : Due) → now_reason true true due ≡ Some reason → first_reason (all_reasons b.setup b.rules past (b.street, due) (said.Raise named amount)) ≡ Some reason
raise_not_now b past named amount reason dues.Move is = absurd (cc)
raise_not_now b past named amount reason dues.BringIn is = absurd (cc)
raise_not_now b past named amount reason dues.Over is = is
raise_not_now b past named amount reason (dues.Deal street) is = is
raise_not_now b past named amount reason (dues.Draw street) is = is
raise_not_now b past named amount reason dues.Show is = is

bring_in_not_now : (b : BettingState) (past : Past) (named : Option ℕ) (reason : Illegal) (due : Due) → now_reason false true due ≡ Some reason → first_reason (all_reasons b.setup b.rules past (b.street, due) (said.BringIn named)) ≡ Some reason
bring_in_not_now b past named reason dues.BringIn is = absurd (cc)
bring_in_not_now b past named reason dues.Move is = is
bring_in_not_now b past named reason dues.Over is = is
bring_in_not_now b past named reason (dues.Deal street) is = is
bring_in_not_now b past named reason (dues.Draw street) is = is
bring_in_not_now b past named reason dues.Show is = is

-- the reason if it is not known whose turn it is
unknown_by : (b : BettingState) (named : Option ℕ) (other : Bool) → other ≡ cannot_act_seen b named → (if other then Some reasons.WrongSeat else Some reasons.UpCardUnknown) ≡ Some (unknown_reason b named)
unknown_by b named other is = ap (λ (o : Bool). if o then Some reasons.WrongSeat else Some reasons.UpCardUnknown) is ∙ each (cannot_act_seen b named)
  where
    each : (o : Bool) → (if o then Some reasons.WrongSeat else Some reasons.UpCardUnknown) ≡ Some (if o then reasons.WrongSeat else reasons.UpCardUnknown)
    each true = refl
    each false = refl

-- something else is due
module _ (b : BettingState) (past : Past) (stands : StandsFor b past) where
  pub fold_now : (named : Option ℕ) (reason : Illegal) → Some reason ≡ now_reason true false b.due → why b.setup b.rules past (said.Fold named) ≡ Some reason
  fold_now named reason is = why_where b past (said.Fold named) b.due stands refl ∙ fold_not_now b past named reason b.due (sym is)

  pub call_now : (named stated : Option ℕ) (reason : Illegal) → Some reason ≡ now_reason true false b.due → why b.setup b.rules past (said.Call named stated) ≡ Some reason
  call_now named stated reason is = why_where b past (said.Call named stated) b.due stands refl ∙ call_not_now b past named stated reason b.due (sym is)

  pub raise_now : (named : Option ℕ) (amount : Spelled) (reason : Illegal) → Some reason ≡ now_reason true true b.due → why b.setup b.rules past (said.Raise named amount) ≡ Some reason
  raise_now named amount reason is = why_where b past (said.Raise named amount) b.due stands refl ∙ raise_not_now b past named amount reason b.due (sym is)

  pub bring_in_refused : (named : Option ℕ) (reason : Illegal) → Some reason ≡ now_reason false true b.due → why b.setup b.rules past (said.BringIn named) ≡ Some reason
  bring_in_refused named reason is = why_where b past (said.BringIn named) b.due stands refl ∙ bring_in_not_now b past named reason b.due (sym is)

  -- how a legal move takes place, if it is known whose turn it is
  took_place : (event : Said) (m : ℕ) → IsTurn b past (TheSeat m) → with_event b.setup event past ≡ resolved_by b.setup (moves_of past) b.street (TheSeat m) event ∷ past
  unfolding with_event
  took_place event m turn =
      ap (λ (t : ℕ × Due). resolved_on b.setup past t.0 event ∷ past) stands.turn_is
      ∙ ap (λ (t : InTurn). resolved_by b.setup (moves_of past) b.street t event ∷ past) (sym turn)

  pub fold_is_legal : (named : Option ℕ) (m : ℕ) → now_reason true false b.due ≡ None → IsSeatOf b.setup.stacks.seats m → IsTurn b past (TheSeat m) → None ≡ fold_reason b named m → IsLegalMove b past (said.Fold named) m Folded (amount_of b.bets m)
  fold_is_legal named m now in_m turn none =
      let actor : actor_of named (TheSeat m) ≡ m = fold_actor b named m (sym none) in
      record {
        legal = sym (none ∙ sym (why_fold b past stands (move_now b.due now) m in_m (sym turn) named));
        moved = took_place (said.Fold named) m turn
            ∙ ap (λ (seat : ℕ). Moved (move_of b (moves_of past) seat Folded (street_chips b.setup (moves_of past) b.street seat)) ∷ past) actor
            ∙ ap (λ (t : ℕ). Moved (move_of b (moves_of past) m Folded t) ∷ past) (sym (stands.standing.bets m in_m));
      }

  pub call_is_legal : (named stated : Option ℕ) (m : ℕ) → now_reason true false b.due ≡ None → IsSeatOf b.setup.stacks.seats m → IsTurn b past (TheSeat m) → None ≡ call_reason b named stated m → IsLegalMove b past (said.Call named stated) m Called (call_seen b m)
  call_is_legal named stated m now in_m turn none =
      let actor : actor_of named (TheSeat m) ≡ m = call_actor b named stated m (sym none) in
      record {
        legal = sym (none ∙ sym (why_call b past stands (move_now b.due now) m in_m (sym turn) named stated));
        moved = took_place (said.Call named stated) m turn
            ∙ ap (λ (seat : ℕ). Moved (move_of b (moves_of past) seat Called (call_target b.setup (moves_of past) b.street seat)) ∷ past) actor
            ∙ ap (λ (t : ℕ). Moved (move_of b (moves_of past) m Called t) ∷ past) (sym (call_is b (moves_of past) stands.standing m in_m));
      }

  pub raise_is_legal : (named : Option ℕ) (amount : Spelled) (m : ℕ) (limit : Limit) → limit_of b.setup.code ≡ limit → now_reason true true b.due ≡ None → IsSeatOf b.setup.stacks.seats m → IsTurn b past (TheSeat m) → None ≡ raise_reason limit b (floor_by b.rules.reopen (starting_bet b.setup b.street) b) named amount m → IsLegalMove b past (said.Raise named amount) m Raised (target_seen b m amount)
  raise_is_legal named amount m limit limit_is now in_m turn none =
      let actor : actor_of named (TheSeat m) ≡ m = raise_actor limit b (floor_by b.rules.reopen (starting_bet b.setup b.street) b) named amount m (sym none) in
      record {
        legal = sym (none ∙ sym (why_raise b past stands limit limit_is m in_m (sym turn) b.due refl now named amount));
        moved = took_place (said.Raise named amount) m turn
            ∙ ap (λ (seat : ℕ). Moved (move_of b (moves_of past) seat Raised (raise_target b.setup (moves_of past) b.street seat amount)) ∷ past) actor
            ∙ ap (λ (t : ℕ). Moved (move_of b (moves_of past) m Raised t) ∷ past) (target_is b (moves_of past) stands.standing m in_m amount);
      }

  pub bring_in_is_legal : (named : Option ℕ) (m : ℕ) → now_reason false true b.due ≡ None → IsSeatOf b.setup.stacks.seats m → IsTurn b past (TheSeat m) → None ≡ bring_in_reason named m → IsLegalMove b past (said.BringIn named) m BroughtIn (bring_in_seen b m)
  bring_in_is_legal named m now in_m turn none =
      let actor : actor_of named (TheSeat m) ≡ m = bring_in_actor named m (sym none) in
      record {
        legal = sym (none ∙ sym (why_bring_in b past stands (bring_in_now b.due now) m (sym turn) named));
        moved = took_place (said.BringIn named) m turn
            ∙ ap (λ (seat : ℕ). Moved (move_of b (moves_of past) seat BroughtIn (bring_in_target b.setup (moves_of past) b.street seat)) ∷ past) actor
            ∙ ap (λ (t : ℕ). Moved (move_of b (moves_of past) m BroughtIn t) ∷ past) (sym (bring_in_is b (moves_of past) stands.standing m in_m));
      }

  pub fold_moves : (named : Option ℕ) (m : ℕ) → now_reason true false b.due ≡ None → IsSeatOf b.setup.stacks.seats m → IsTurn b past (TheSeat m) → why b.setup b.rules past (said.Fold named) ≡ fold_reason b named m
  fold_moves named m now in_m turn = why_fold b past stands (move_now b.due now) m in_m (sym turn) named

  pub call_moves : (named stated : Option ℕ) (m : ℕ) → now_reason true false b.due ≡ None → IsSeatOf b.setup.stacks.seats m → IsTurn b past (TheSeat m) → why b.setup b.rules past (said.Call named stated) ≡ call_reason b named stated m
  call_moves named stated m now in_m turn = why_call b past stands (move_now b.due now) m in_m (sym turn) named stated

  pub raise_moves : (named : Option ℕ) (amount : Spelled) (m : ℕ) (limit : Limit) → limit_of b.setup.code ≡ limit → now_reason true true b.due ≡ None → IsSeatOf b.setup.stacks.seats m → IsTurn b past (TheSeat m) → why b.setup b.rules past (said.Raise named amount) ≡ raise_reason limit b (floor_by b.rules.reopen (starting_bet b.setup b.street) b) named amount m
  raise_moves named amount m limit limit_is now in_m turn = why_raise b past stands limit limit_is m in_m (sym turn) b.due refl now named amount

  pub bring_in_moves : (named : Option ℕ) (m : ℕ) → now_reason false true b.due ≡ None → IsTurn b past (TheSeat m) → why b.setup b.rules past (said.BringIn named) ≡ bring_in_reason named m
  bring_in_moves named m now turn = why_bring_in b past stands (bring_in_now b.due now) m (sym turn) named

  -- it is not known whose turn it is
  unable_is : (actor : Option Seat) → is_other_seat b.setup (moves_of past) (seat_said actor) Undecided ≡ cannot_act_seen b (seat_said actor)
  unable_is None = refl
  unable_is (Some seat) = ap not (sym (able_anywhere b (moves_of past) stands.standing seat.number seat.first))

  undecided_is : (actor : Option Seat) → (if is_other_seat b.setup (moves_of past) (seat_said actor) Undecided then Some reasons.WrongSeat else Some reasons.UpCardUnknown) ≡ Some (unknown_reason b (seat_said actor))
  undecided_is actor = unknown_by b (seat_said actor) (is_other_seat b.setup (moves_of past) (seat_said actor) Undecided) (unable_is actor)

  pub fold_unknown : (actor : Option Seat) → now_reason true false b.due ≡ None → IsTurn b past Undecided → why b.setup b.rules past (said.Fold (seat_said actor)) ≡ Some (unknown_reason b (seat_said actor))
  fold_unknown actor now turn = fold_undecided b past stands (move_now b.due now) (sym turn) (seat_said actor) ∙ undecided_is actor

  pub call_unknown : (actor : Option Seat) (stated : Option ℕ) → now_reason true false b.due ≡ None → IsTurn b past Undecided → why b.setup b.rules past (said.Call (seat_said actor) stated) ≡ Some (unknown_reason b (seat_said actor))
  call_unknown actor stated now turn = call_undecided b past stands (move_now b.due now) (sym turn) (seat_said actor) stated ∙ undecided_is actor

  pub raise_unknown : (actor : Option Seat) (amount : Spelled) → now_reason true true b.due ≡ None → IsTurn b past Undecided → why b.setup b.rules past (said.Raise (seat_said actor) amount) ≡ Some (unknown_reason b (seat_said actor))
  raise_unknown actor amount now turn = raise_undecided b past stands (sym turn) b.due refl now (seat_said actor) amount ∙ undecided_is actor

  pub bring_in_unknown : (actor : Option Seat) → now_reason false true b.due ≡ None → IsTurn b past Undecided → why b.setup b.rules past (said.BringIn (seat_said actor)) ≡ Some (unknown_reason b (seat_said actor))
  bring_in_unknown actor now turn = bring_in_undecided b past stands (bring_in_now b.due now) (sym turn) (seat_said actor) ∙ undecided_is actor

-- a fold or a call comes when a move is due
pub move_fits : (due : Due) → now_reason true false due ≡ None → is_move due ≡ true
move_fits dues.Move is = refl
move_fits dues.Over is = absurd (cc)
move_fits (dues.Deal street) is = absurd (cc)
move_fits (dues.Draw street) is = absurd (cc)
move_fits dues.BringIn is = absurd (cc)
move_fits dues.Show is = absurd (cc)

-- a bring-in or a move is due when an event may come
pub bets_now : (at_move at_bring_in : Bool) (due : Due) → now_reason at_move at_bring_in due ≡ None → is_bet_due due ≡ true
bets_now at_move at_bring_in dues.Move is = refl
bets_now at_move at_bring_in dues.BringIn is = refl
bets_now at_move at_bring_in dues.Over is = absurd (cc)
bets_now at_move at_bring_in (dues.Deal street) is = absurd (cc)
bets_now at_move at_bring_in (dues.Draw street) is = absurd (cc)
bets_now at_move at_bring_in dues.Show is = absurd (cc)
