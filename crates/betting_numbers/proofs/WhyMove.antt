-- The reasons by the running numbers are the reasons of the rules.
use Rattle.std.proofs.Common.{◌≡◌, ℕ, ◌-◌, ◌<◌, ◌≤◌, Bool, true, false, ◌&&◌, ◌==◌, not, nat_lt, min, if◌then◌else◌, inl, inr, List, Option, Some, None, refl, sym, ap, ◌∙◌, arith}
use Rattle.std.proofs.lemmas.Bool.{eqb-true, cases_lt, le-ltb, and_right}
use Rattle.chip_ledger.specs.LiveRow.{flag_of}
use Rattle.chip_ledger.specs.SeatRow.{amount_of}
use Rattle.play_event.specs.declared.reason.Due.TheVariants as dues
use Rattle.play_event.specs.declared.reason.Illegal.{Illegal}
use Rattle.play_event.specs.declared.reason.Illegal.TheVariants as reasons
use Rattle.play_event.specs.declared.setup.Setup.{Setup}
use Rattle.play_event.specs.Said as said
use Rattle.play_event.specs.Past.{Past, Move, moves_of}
use Rattle.play_event.specs.Chips.{all_in, chips_left, chips_put}
use Rattle.play_event.specs.Seats.{is_live, can_act}
use Rattle.play_event.specs.CurrentBet.{current_bet, to_call}
use Rattle.play_event.specs.Openers.{InTurn, TheSeat, Undecided}
use Rattle.play_event.specs.PlayerToAct.{player_to_act}
use Rattle.play_event.specs.Table.{up_cards}
use Rattle.play_event.specs.MoveReasons.{actor_of, is_other_seat, is_undecided, chips_to_call}
use Rattle.play_event.specs.Reasons.{why, first_reason, all_reasons}
use Rattle.betting_numbers.specs.declared.betting_state.BettingState.{BettingState}
use Rattle.betting_numbers.specs.Seen.{can_act_seen, left_seen, all_in_seen}
use Rattle.betting_numbers.specs.Standing.{Standing, StandsFor}
use Rattle.betting_numbers.specs.Why.{bring_in_reason, is_another, fold_reason, call_reason, call_seen, stated_reason}
use Rattle.betting_numbers.proofs.Bridge.{able_is, current_bet_is, owed_is, all_in_is}
use Rattle.chip_ledger.specs.Seat.{IsSeatOf}

-- a reason that reads the seat that moves reads the player to act, if that is the seat that is
-- named
by_named : (f : ℕ → Option Illegal) (named : Option ℕ) (player_to_act : ℕ) (another : Bool) → is_another named player_to_act ≡ another → (if another then Some reasons.WrongSeat else f (actor_of named (TheSeat player_to_act))) ≡ (if another then Some reasons.WrongSeat else f player_to_act)
by_named f named player_to_act true is = refl
by_named f None player_to_act false is = refl
by_named f (Some seat) player_to_act false is = ap f (eqb-true seat player_to_act (same_by (seat == player_to_act) is))
  where
    same_by : (b : Bool) → not b ≡ false → b ≡ true
    same_by true e = refl
    same_by false e = absurd cc

pub read_player_to_act : (f : ℕ → Option Illegal) (named : Option ℕ) (player_to_act : ℕ) → (if is_another named player_to_act then Some reasons.WrongSeat else f (actor_of named (TheSeat player_to_act))) ≡ (if is_another named player_to_act then Some reasons.WrongSeat else f player_to_act)
read_player_to_act f named player_to_act = by_named f named player_to_act (is_another named player_to_act) refl

-- whose turn it is not, if that is known
pub other_is : (setup : Setup) (moves : List Move) (named : Option ℕ) (player_to_act : ℕ) → is_other_seat setup moves named (TheSeat player_to_act) ≡ is_another named player_to_act
other_is setup moves None player_to_act = refl
other_is setup moves (Some seat) player_to_act = refl

module _ (b : BettingState) (past : Past) (stands : StandsFor b past) (due_is : b.due ≡ dues.Move) (m : ℕ) (in_hand : IsSeatOf b.setup.stacks.seats m) (player_to_act_is : player_to_act b.setup (up_cards b.setup.code past) (moves_of past) b.street ≡ TheSeat m) where
  pub why_fold : (named : Option ℕ) → why b.setup b.rules past (said.Fold named) ≡ fold_reason b named m
  unfolding why
  why_fold named =
      ap (λ now. first_reason (all_reasons b.setup b.rules past now (said.Fold named))) stands.turn_is
      ∙ ap (λ d. first_reason (all_reasons b.setup b.rules past (b.street, d) (said.Fold named))) due_is
      ∙ ap (λ (t : InTurn).
      if is_other_seat b.setup (moves_of past) named t then Some reasons.WrongSeat
      else if is_undecided t then Some reasons.UpCardUnknown
      else if not b.rules.free_fold && (to_call b.setup (moves_of past) b.street (actor_of named t) == 0) then Some reasons.NothingToCall
      else None) player_to_act_is
      ∙ ap (λ o. if o then Some reasons.WrongSeat else if not b.rules.free_fold && (to_call b.setup (moves_of past) b.street (actor_of named (TheSeat m)) == 0) then Some reasons.NothingToCall else None) (other_is b.setup (moves_of past) named m)
      ∙ read_player_to_act (λ seat. if not b.rules.free_fold && (to_call b.setup (moves_of past) b.street seat == 0) then Some reasons.NothingToCall else None) named m
      ∙ ap (λ owes. if is_another named m then Some reasons.WrongSeat else if not b.rules.free_fold && (owes == 0) then Some reasons.NothingToCall else None) (sym (owed_is b (moves_of past) stands.standing m in_hand))

  chips_is : chips_to_call b.setup (moves_of past) b.street m ≡ call_seen b m - amount_of b.bets m
  chips_is = sym (
      ap (λ p. min p (all_in_seen b m) - amount_of b.bets m) (current_bet_is b (moves_of past) stands.standing)
      ∙ ap (λ a. min (current_bet b.setup (moves_of past) b.street) a - amount_of b.bets m) (all_in_is b (moves_of past) stands.standing m in_hand)
      ∙ ap (λ c. min (current_bet b.setup (moves_of past) b.street) (all_in b.setup (moves_of past) b.street m) - c) (stands.standing.bets m in_hand)
      )

  pub why_call : (named stated : Option ℕ) → why b.setup b.rules past (said.Call named stated) ≡ call_reason b named stated m
  unfolding why
  why_call named None =
      ap (λ now. first_reason (all_reasons b.setup b.rules past now (said.Call named None))) stands.turn_is
      ∙ ap (λ d. first_reason (all_reasons b.setup b.rules past (b.street, d) (said.Call named None))) due_is
      ∙ ap (λ (t : InTurn).
      if is_other_seat b.setup (moves_of past) named t then Some reasons.WrongSeat
      else if is_undecided t then Some reasons.UpCardUnknown
      else None) player_to_act_is
      ∙ ap (λ o. if o then Some reasons.WrongSeat else None) (other_is b.setup (moves_of past) named m)
  why_call named (Some stated) =
      ap (λ now. first_reason (all_reasons b.setup b.rules past now (said.Call named (Some stated)))) stands.turn_is
      ∙ ap (λ d. first_reason (all_reasons b.setup b.rules past (b.street, d) (said.Call named (Some stated)))) due_is
      ∙ ap (λ (t : InTurn).
      if is_other_seat b.setup (moves_of past) named t then Some reasons.WrongSeat
      else if is_undecided t then Some reasons.UpCardUnknown
      else stated_reason (Some stated) (chips_to_call b.setup (moves_of past) b.street (actor_of named t))) player_to_act_is
      ∙ ap (λ o. if o then Some reasons.WrongSeat else stated_reason (Some stated) (chips_to_call b.setup (moves_of past) b.street (actor_of named (TheSeat m)))) (other_is b.setup (moves_of past) named m)
      ∙ read_player_to_act (λ seat. stated_reason (Some stated) (chips_to_call b.setup (moves_of past) b.street seat)) named m
      ∙ ap (λ due. if is_another named m then Some reasons.WrongSeat else stated_reason (Some stated) due) chips_is

-- a number that is no seat's is not that of a seat that can act; 0 reads as the first seat
module _ (b : BettingState) (moves : List Move) (st : Standing b.setup b.street b moves) where
  pub able_anywhere : (seat : ℕ) → 1 ≤ seat → can_act_seen b seat ≡ can_act b.setup moves seat
  able_anywhere seat some = elim (cases_lt b.setup.stacks.seats seat) [
    | inl past_last ↦ nobody (flag_of b.live seat) (is_live moves seat) (nothing (left_seen b seat) (no_stack seat past_last (amount_of b.puts seat))) (nothing (chips_left b.setup moves seat) (no_stack seat past_last (chips_put b.setup moves seat)))
    | inr in_hand ↦ able_is b moves st seat (record { first = some; last = in_hand })
  ]
    where
      nothing : (n : ℕ) → n ≡ 0 → nat_lt 0 n ≡ false
      nothing n is = le-ltb 0 n (omega (arith, is))

      nobody : (p q : Bool) {x y : Bool} → x ≡ false → y ≡ false → (p && x) ≡ (q && y)
      nobody p q x y = and_right p _ x ∙ sym (and_right q _ y)

      no_stack : (k : ℕ) → b.setup.stacks.seats < k → (n : ℕ) → amount_of b.setup.stacks k - n ≡ 0
      no_stack k late n = let none : amount_of b.setup.stacks k ≡ 0 = b.setup.stacks.filler (k - 1) (omega (arith, late)) in omega (arith, none)

module _ (b : BettingState) (past : Past) (stands : StandsFor b past) (due_is : b.due ≡ dues.BringIn) (m : ℕ) (player_to_act_is : player_to_act b.setup (up_cards b.setup.code past) (moves_of past) b.street ≡ TheSeat m) where
  pub why_bring_in : (named : Option ℕ) → why b.setup b.rules past (said.BringIn named) ≡ bring_in_reason named m
  unfolding why
  why_bring_in named =
      ap (λ now. first_reason (all_reasons b.setup b.rules past now (said.BringIn named))) stands.turn_is
      ∙ ap (λ d. first_reason (all_reasons b.setup b.rules past (b.street, d) (said.BringIn named))) due_is
      ∙ ap (λ (t : InTurn).
      if is_other_seat b.setup (moves_of past) named t then Some reasons.WrongSeat
      else if is_undecided t then Some reasons.UpCardUnknown
      else None) player_to_act_is
      ∙ ap (λ o. if o then Some reasons.WrongSeat else None) (other_is b.setup (moves_of past) named m)

-- it is not known whose turn it is
module _ (b : BettingState) (past : Past) (stands : StandsFor b past) (due_is : b.due ≡ dues.BringIn) (player_to_act_is : player_to_act b.setup (up_cards b.setup.code past) (moves_of past) b.street ≡ Undecided) where
  pub bring_in_undecided : (named : Option ℕ) → why b.setup b.rules past (said.BringIn named) ≡ (if is_other_seat b.setup (moves_of past) named Undecided then Some reasons.WrongSeat else Some reasons.UpCardUnknown)
  unfolding why
  bring_in_undecided named =
      ap (λ now. first_reason (all_reasons b.setup b.rules past now (said.BringIn named))) stands.turn_is
      ∙ ap (λ d. first_reason (all_reasons b.setup b.rules past (b.street, d) (said.BringIn named))) due_is
      ∙ ap (λ (t : InTurn).
      if is_other_seat b.setup (moves_of past) named t then Some reasons.WrongSeat
      else if is_undecided t then Some reasons.UpCardUnknown
      else None) player_to_act_is

module _ (b : BettingState) (past : Past) (stands : StandsFor b past) (due_is : b.due ≡ dues.Move) (player_to_act_is : player_to_act b.setup (up_cards b.setup.code past) (moves_of past) b.street ≡ Undecided) where
  pub fold_undecided : (named : Option ℕ) → why b.setup b.rules past (said.Fold named) ≡ (if is_other_seat b.setup (moves_of past) named Undecided then Some reasons.WrongSeat else Some reasons.UpCardUnknown)
  unfolding why
  fold_undecided named =
      ap (λ now. first_reason (all_reasons b.setup b.rules past now (said.Fold named))) stands.turn_is
      ∙ ap (λ d. first_reason (all_reasons b.setup b.rules past (b.street, d) (said.Fold named))) due_is
      ∙ ap (λ (t : InTurn).
      if is_other_seat b.setup (moves_of past) named t then Some reasons.WrongSeat
      else if is_undecided t then Some reasons.UpCardUnknown
      else if not b.rules.free_fold && (to_call b.setup (moves_of past) b.street (actor_of named t) == 0) then Some reasons.NothingToCall
      else None) player_to_act_is

  pub call_undecided : (named stated : Option ℕ) → why b.setup b.rules past (said.Call named stated) ≡ (if is_other_seat b.setup (moves_of past) named Undecided then Some reasons.WrongSeat else Some reasons.UpCardUnknown)
  unfolding why
  call_undecided named None =
      ap (λ now. first_reason (all_reasons b.setup b.rules past now (said.Call named None))) stands.turn_is
      ∙ ap (λ d. first_reason (all_reasons b.setup b.rules past (b.street, d) (said.Call named None))) due_is
      ∙ ap (λ (t : InTurn).
      if is_other_seat b.setup (moves_of past) named t then Some reasons.WrongSeat
      else if is_undecided t then Some reasons.UpCardUnknown
      else None) player_to_act_is
  call_undecided named (Some stated) =
      ap (λ now. first_reason (all_reasons b.setup b.rules past now (said.Call named (Some stated)))) stands.turn_is
      ∙ ap (λ d. first_reason (all_reasons b.setup b.rules past (b.street, d) (said.Call named (Some stated)))) due_is
      ∙ ap (λ (t : InTurn).
      if is_other_seat b.setup (moves_of past) named t then Some reasons.WrongSeat
      else if is_undecided t then Some reasons.UpCardUnknown
      else stated_reason (Some stated) (chips_to_call b.setup (moves_of past) b.street (actor_of named t))) player_to_act_is
