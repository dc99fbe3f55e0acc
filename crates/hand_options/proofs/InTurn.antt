-- The moves of the player to act, if known.
use Rattle.std.proofs.Common.{◌≡◌, ℕ, ◌-◌, ◌≤◌, min, Bool, true, false, not, ◌==◌, if◌then◌else◌, Option, Some, None, IfSome, is_none, is_some, refl, sym, ap, subst, ◌∙◌}
use Rattle.std.specs.Prelude.{option_and_then}
use Rattle.std.specs.Option.{option_map_or}
use Rattle.std.proofs.lemmas.Bool.{eq-eqb}
use Rattle.card_set.proofs.Tests.{false_true}
use Rattle.chip_ledger.specs.declared.numbers.Seat.{Seat}
use Rattle.chip_ledger.specs.SeatRow.{amount_of}
use Rattle.play_event.specs.declared.limit.Limit.{Limit}
use Rattle.play_event.specs.declared.reason.Due.{Due}
use Rattle.play_event.specs.declared.reason.Due.TheVariants as dues
use Rattle.play_event.specs.declared.reason.Illegal.{Illegal}
use Rattle.play_event.specs.declared.reason.Illegal.TheVariants as reasons
use Rattle.play_event.specs.Amounts.{bring_in_target}
use Rattle.play_event.specs.Due.{turn}
use Rattle.play_event.specs.Laws.{IsInTurn}
use Rattle.play_event.specs.MoveReasons.{chips_to_call}
use Rattle.play_event.specs.Openers.{TheSeat, Undecided}
use Rattle.play_event.specs.Past.{Past, moves_of}
use Rattle.play_event.specs.Said.{BringIn, Call, Fold}
use Rattle.play_event.specs.Streets.{limit_of}
use Rattle.play_event.specs.Targets.{is_legal_target}
use Rattle.play_event.specs.TurnTargets.{has_targets, is_bet_due}
use Rattle.play_laws.specs.Dues.{is_move}
use Rattle.betting_numbers.specs.declared.betting_state.BettingState.{BettingState}
use Rattle.betting_numbers.specs.declared.targeting.Targets.{Targets}
use Rattle.betting_numbers.specs.LegalMoves.{IsTurn}
use Rattle.betting_numbers.specs.Standing.{StandsFor}
use Rattle.betting_numbers.specs.Targeted.{AreEndsFor}
use Rattle.betting_numbers.specs.Why.{bring_in_seen, call_seen, fold_reason, now_reason}
use Rattle.betting_numbers.proofs.Bridge.{all_in_is}
use Rattle.betting_core.proofs.ToCall.{call_after, fold_after}
use Rattle.betting_numbers.proofs.InTurn.{bring_in_moves, bring_in_refused, call_moves, call_now, fold_now}
use Rattle.hand_options.specs.declared.choices.RaiseSet.{RaiseSet}
use Rattle.betting_numbers.specs.TurnSaid.{in_turn_on}
use Rattle.hand_options.specs.Legal.{AreOptions, IsSetOf, bring_in_of, call_of, is_in_set, is_legal, is_legal_raise, seat_at, seat_in_turn, seat_known}
use Rattle.hand_options.specs.Sets.{no_options, set_of}
use Rattle.hand_options.proofs.LegalRaises.{no_raise, raise_by_target}
use Rattle.hand_options.proofs.TargetSets.{form_is, set_is}
use Rattle.chip_ledger.specs.Seat.{IsSeatOf}

-- a seat is the same as itself
own : (seat : ℕ) (reason : Illegal) → is_none (if not (seat == seat) then Some reason else None) ≡ true
own seat reason = ap (λ (same : Bool). is_none (if not same then Some reason else None)) (eq-eqb seat seat refl)

module _ (b : BettingState) (past : Past) (stands : StandsFor b past) (seat : Seat) (last : seat.number ≤ b.setup.stacks.seats) (turned : IsTurn b past (TheSeat seat.number)) where
  in_hand : IsSeatOf b.setup.stacks.seats seat.number
  in_hand = record { first = seat.first; last = last }

  seat_is : is_bet_due b.due ≡ true → seat_in_turn b.setup past ≡ Some seat.number
  seat_is bets =
      ap (seat_at b.setup past) stands.turn_is
      ∙ ap (λ (t : Bool). if t then seat_known (in_turn_on b.setup past b.street) else None) bets
      ∙ ap seat_known (sym turned)

  mine : IsInTurn b.setup past seat.number
  mine = ap (λ (t : ℕ × Due). in_turn_on b.setup past t.0) stands.turn_is ∙ sym turned

  -- the raises
  raises : (limit : Limit) → limit_of b.setup.code ≡ limit → (found : Option Targets) → is_some found ≡ has_targets b.setup b.rules past
      → IfSome found (λ targets. (other : ℕ) → IsTurn b past (TheSeat other) → AreEndsFor b (moves_of past) other targets)
      → (target : ℕ) → is_in_set (set_of limit found) target ≡ is_legal_raise b.setup b.rules past target seat.number
  raises limit is None some ends target = sym (no_raise b.setup b.rules past seat.number target (sym some))
  raises limit is (Some targets) some ends target =
      set_is b.setup b.rules (moves_of past) b.street seat.number targets.least targets.greatest targets.all_in limit is (ends seat.number turned) target
      ∙ ap (λ (t : ℕ × Due). is_legal_target b.rules.reopen b.setup (moves_of past) t.0 seat.number target) (sym stands.turn_is)
      ∙ raise_by_target b.setup b.rules past seat.number target (sym some) mine

  forms : (limit : Limit) → limit_of b.setup.code ≡ limit → (found : Option Targets)
      → IfSome found (λ targets. (other : ℕ) → IsTurn b past (TheSeat other) → AreEndsFor b (moves_of past) other targets)
      → IsSetOf (limit_of b.setup.code) (set_of limit found)
  forms limit is None ends = tt
  forms limit is (Some targets) ends = form_is b.setup b.rules (moves_of past) b.street seat.number targets.least targets.greatest targets.all_in limit is (ends seat.number turned)

  -- a fold and a call when a move is due
  fold_is : b.due ≡ dues.Move → is_none (fold_reason b (Some seat.number) seat.number) ≡ is_legal b.setup b.rules past (Fold (Some seat.number))
  fold_is due = fold_after b seat.number past stands in_hand due turned

  call_legal : b.due ≡ dues.Move → is_legal b.setup b.rules past (Call (Some seat.number) None) ≡ true
  call_legal due =
      ap is_none (call_moves b past stands (Some seat.number) None seat.number (ap (now_reason true false) due) in_hand turned)
      ∙ own seat.number reasons.WrongSeat

  chips_are : call_seen b seat.number - amount_of b.bets seat.number ≡ chips_to_call b.setup (moves_of past) b.street seat.number
  chips_are = call_after b seat.number past stands in_hand

  call_is : b.due ≡ dues.Move → call_of b.setup b.rules past seat.number ≡ Some (call_seen b seat.number - amount_of b.bets seat.number)
  call_is due =
      ap (λ (legal : Bool). if legal then Some (chips_to_call b.setup (moves_of past) (turn b.setup past).0 seat.number) else None) (call_legal due)
      ∙ ap (λ (t : ℕ × Due). Some (chips_to_call b.setup (moves_of past) t.0 seat.number)) stands.turn_is
      ∙ ap Some (sym chips_are)

  no_bring_in : b.due ≡ dues.Move → bring_in_of b.setup b.rules past seat.number ≡ None
  no_bring_in due =
      ap (λ (found : Option Illegal). if is_none found then Some (bring_in_target b.setup (moves_of past) (turn b.setup past).0 seat.number) else None)
      (bring_in_refused b past stands (Some seat.number) reasons.WrongKind (sym (ap (now_reason false true) due)))

  -- and when a bring-in is due
  no_fold : b.due ≡ dues.BringIn → is_legal b.setup b.rules past (Fold (Some seat.number)) ≡ false
  no_fold due = ap is_none (fold_now b past stands (Some seat.number) reasons.WrongKind (sym (ap (now_reason true false) due)))

  no_call : b.due ≡ dues.BringIn → call_of b.setup b.rules past seat.number ≡ None
  no_call due =
      ap (λ (found : Option Illegal). if is_none found then Some (chips_to_call b.setup (moves_of past) (turn b.setup past).0 seat.number) else None)
      (call_now b past stands (Some seat.number) None reasons.WrongKind (sym (ap (now_reason true false) due)))

  bring_in_legal : b.due ≡ dues.BringIn → is_legal b.setup b.rules past (BringIn (Some seat.number)) ≡ true
  bring_in_legal due =
      ap is_none (bring_in_moves b past stands (Some seat.number) seat.number (ap (now_reason false true) due) turned)
      ∙ own seat.number reasons.WrongSeat

  bring_in_is : b.due ≡ dues.BringIn → bring_in_of b.setup b.rules past seat.number ≡ Some (bring_in_seen b seat.number)
  bring_in_is due =
      ap (λ (legal : Bool). if legal then Some (bring_in_target b.setup (moves_of past) (turn b.setup past).0 seat.number) else None) (bring_in_legal due)
      ∙ ap (λ (t : ℕ × Due). Some (bring_in_target b.setup (moves_of past) t.0 seat.number)) stands.turn_is
      ∙ ap (λ n. Some (min b.setup.bring_in n)) (sym (all_in_is b (moves_of past) stands.standing seat.number in_hand))

  -- the options, with these raises
  module _ (limit : Limit) (limit_is : limit_of b.setup.code ≡ limit) (found : Option Targets) (some : is_some found ≡ has_targets b.setup b.rules past)
      (ends : IfSome found (λ targets. (other : ℕ) → IsTurn b past (TheSeat other) → AreEndsFor b (moves_of past) other targets)) (raise : RaiseSet) (told : raise ≡ set_of limit found) where
    pub at_move : (now : Due) → now ≡ b.due → b.due ≡ dues.Move → (fold : Bool) (chips : ℕ) → fold ≡ is_none (fold_reason b (Some seat.number) seat.number) → chips ≡ call_seen b seat.number - amount_of b.bets seat.number
        → AreOptions b.setup b.rules past (record { due = now; seat = Some seat; fold = fold; call = Some chips; bring_in = None; raise = raise })
    at_move now now_is due fold chips fold_by chips_by =
        let player_to_act = seat_is (ap is_bet_due due) in
        record {
          due = now_is ∙ sym (ap (λ (t : ℕ × Due). t.1) stands.turn_is);
          seat = sym player_to_act;
          fold = fold_by ∙ fold_is due ∙ sym (ap (λ (s : Option ℕ). option_map_or (λ n. is_legal b.setup b.rules past (Fold (Some n))) s false) player_to_act);
          call = ap Some chips_by ∙ sym (call_is due) ∙ sym (ap (option_and_then (call_of b.setup b.rules past)) player_to_act);
          bring_in = sym (no_bring_in due) ∙ sym (ap (option_and_then (bring_in_of b.setup b.rules past)) player_to_act);
          raise = λ target. ap (λ (set : RaiseSet). is_in_set set target) told ∙ raises limit limit_is found some ends target ∙ sym (ap (λ (s : Option ℕ). option_map_or (is_legal_raise b.setup b.rules past target) s false) player_to_act);
          form = subst (IsSetOf (limit_of b.setup.code)) (sym told) (forms limit limit_is found ends);
        }

    pub at_bring_in : (now : Due) → now ≡ b.due → b.due ≡ dues.BringIn → (target : ℕ) → target ≡ bring_in_seen b seat.number
        → AreOptions b.setup b.rules past (record { due = now; seat = Some seat; fold = false; call = None; bring_in = Some target; raise = raise })
    at_bring_in now now_is due target target_by =
        let player_to_act = seat_is (ap is_bet_due due) in
        record {
          due = now_is ∙ sym (ap (λ (t : ℕ × Due). t.1) stands.turn_is);
          seat = sym player_to_act;
          fold = sym (no_fold due) ∙ sym (ap (λ (s : Option ℕ). option_map_or (λ n. is_legal b.setup b.rules past (Fold (Some n))) s false) player_to_act);
          call = sym (no_call due) ∙ sym (ap (option_and_then (call_of b.setup b.rules past)) player_to_act);
          bring_in = ap Some target_by ∙ sym (bring_in_is due) ∙ sym (ap (option_and_then (bring_in_of b.setup b.rules past)) player_to_act);
          raise = λ to. ap (λ (set : RaiseSet). is_in_set set to) told ∙ raises limit limit_is found some ends to ∙ sym (ap (λ (s : Option ℕ). option_map_or (is_legal_raise b.setup b.rules past to) s false) player_to_act);
          form = subst (IsSetOf (limit_of b.setup.code)) (sym told) (forms limit limit_is found ends);
        }

-- what is due is a move or a bring-in
pub a_move : (due : Due) → is_move due ≡ true → due ≡ dues.Move
a_move dues.Move is = refl
a_move dues.BringIn is = false_true is
a_move (dues.Deal on) is = false_true is
a_move (dues.Draw on) is = false_true is
a_move dues.Show is = false_true is
a_move dues.Over is = false_true is

pub a_bring_in : (due : Due) → is_bet_due due ≡ true → is_move due ≡ false → due ≡ dues.BringIn
a_bring_in dues.BringIn bets not_move = refl
a_bring_in dues.Move bets not_move = false_true (sym not_move)
a_bring_in (dues.Deal on) bets not_move = false_true bets
a_bring_in (dues.Draw on) bets not_move = false_true bets
a_bring_in dues.Show bets not_move = false_true bets
a_bring_in dues.Over bets not_move = false_true bets

-- no player is to act: no move is legal
pub no_moves : (b : BettingState) (past : Past) → StandsFor b past → seat_in_turn b.setup past ≡ None → AreOptions b.setup b.rules past (no_options b.due)
no_moves b past stands none = record {
  due = sym (ap (λ (t : ℕ × Due). t.1) stands.turn_is);
  seat = sym none;
  fold = sym (ap (λ (s : Option ℕ). option_map_or (λ n. is_legal b.setup b.rules past (Fold (Some n))) s false) none);
  call = sym (ap (option_and_then (call_of b.setup b.rules past)) none);
  bring_in = sym (ap (option_and_then (bring_in_of b.setup b.rules past)) none);
  raise = λ target. sym (ap (λ (s : Option ℕ). option_map_or (is_legal_raise b.setup b.rules past target) s false) none);
  form = tt;
}

-- something other than a move or a bring-in is due
pub no_seat_due : (b : BettingState) (past : Past) → StandsFor b past → is_bet_due b.due ≡ false → seat_in_turn b.setup past ≡ None
no_seat_due b past stands none =
    ap (seat_at b.setup past) stands.turn_is
    ∙ ap (λ (t : Bool). if t then seat_known (in_turn_on b.setup past b.street) else None) none

-- the player to act is not known
pub no_seat_known : (b : BettingState) (past : Past) → StandsFor b past → is_bet_due b.due ≡ true → IsTurn b past Undecided → seat_in_turn b.setup past ≡ None
no_seat_known b past stands bets turned =
    ap (seat_at b.setup past) stands.turn_is
    ∙ ap (λ (t : Bool). if t then seat_known (in_turn_on b.setup past b.street) else None) bets
    ∙ ap seat_known (sym turned)
