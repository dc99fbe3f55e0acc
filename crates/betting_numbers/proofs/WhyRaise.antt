-- The reasons against a raise by the running numbers are those of the rules, in no-limit.
use Rattle.std.proofs.Common.{◌≡◌, ℕ, ◌+◌, ◌-◌, ◌*◌, ◌≤◌, true, ◌&&◌, ◌||◌, not, nat_lt, nat_le, min, max, if◌then◌else◌, inl, inr, List, Option, Some, None, refl, sym, ap, ◌∙◌, arith, sum_by}
use Rattle.std.specs.Prelude.{slice_index}
use Rattle.std.proofs.lemmas.Bool.{cases_lt, lt-ltb, le-ltb}
use Rattle.chip_ledger.specs.LiveRow.{flag_of}
use Rattle.std.proofs.lemmas.List.Sums.{sum-map}
use Rattle.chip_ledger.specs.Seat.{IsSeatOf, seats_of}
use Rattle.chip_ledger.proofs.Seats.{sum-seats}
use Rattle.chip_ledger.specs.SeatRow.{amount_of, total_of}
use Rattle.play_event.specs.declared.event.Spelled.{Spelled}
use Rattle.play_event.specs.declared.event.Spelled.TheVariants as spelled
use Rattle.play_event.specs.declared.reason.Due.{Due}
use Rattle.play_event.specs.declared.reason.Due.TheVariants as dues
use Rattle.play_event.specs.declared.reason.Illegal.{Illegal}
use Rattle.play_event.specs.declared.reason.Illegal.TheVariants as reasons
use Rattle.play_event.specs.declared.setup.Reopen.{Reopen}
use Rattle.play_event.specs.declared.setup.Reopen.TheVariants as reopen
use Rattle.play_event.specs.declared.limit.Limit.{Limit}
use Rattle.play_event.specs.declared.limit.Limit.TheVariants as limits
use Rattle.play_event.specs.Streets.{limit_of, unit}
use Rattle.play_event.specs.Said as said
use Rattle.play_event.specs.Past.{Past, Move, moves_of}
use Rattle.play_event.specs.Chips.{chips_put, all_in}
use Rattle.play_event.specs.CurrentBet.{current_bet, full_raise, starting_bet, all_chips_put}
use Rattle.play_event.specs.Amounts.{raise_target}
use Rattle.play_event.specs.Targets as targets
use Rattle.play_event.specs.Targets.{pot_ceiling, full_targets, is_target_in, is_legal_target, greatest_target, greatest_target_in, least_target, least_target_in, least_by, is_legal_by, greatest_by}
use Rattle.play_event.specs.Raising.{has_moved, raises_on, is_within_cap, is_full_raise_to_call, is_reopened, has_able_opponent, may_raise}
use Rattle.play_event.specs.Openers.{InTurn, TheSeat, Undecided}
use Rattle.play_event.specs.PlayerToAct.{player_to_act}
use Rattle.play_event.specs.Table.{up_cards}
use Rattle.play_event.specs.MoveReasons.{actor_of, is_other_seat, is_undecided, is_below_targets, is_above_targets}
use Rattle.play_event.specs.Reasons.{why, first_reason, all_reasons}
use Rattle.betting_numbers.specs.declared.betting_state.BettingState.{BettingState}
use Rattle.betting_numbers.specs.Caps.{cap_at}
use Rattle.betting_numbers.specs.Moving.{most_raises}
use Rattle.betting_numbers.specs.Seen.{current_bet_seen, to_call_seen, all_in_seen}
use Rattle.betting_numbers.specs.Standing.{Standing, StandsFor}
use Rattle.betting_numbers.specs.Targeted.{least_seen}
use Rattle.betting_numbers.specs.Why.{now_reason, is_reopened_by, ceiling_seen, full_raise_targets_by, full_raise_targets_seen, is_legal_seen, greatest_seen, is_another, target_seen, is_within_cap_by, is_open_by, may_raise_seen, floor_by, raise_to_reason, raise_reason}
use Rattle.betting_numbers.proofs.Bridge.{current_bet_is, owed_is, all_in_is, opponent_is}
use Rattle.betting_numbers.proofs.WhyMove.{read_player_to_act, other_is}

module _ (b : BettingState) (moves : List Move) (st : Standing b.setup b.street b moves) (m : ℕ) (in_hand : IsSeatOf b.setup.stacks.seats m) where
  pub target_is : (amount : Spelled) → raise_target b.setup moves b.street m amount ≡ target_seen b m amount
  target_is (spelled.To amount) = refl
  target_is (spelled.Added amount) = ap (λ n. n + amount) (sym (st.bets m in_hand))
  target_is (spelled.HandTotal amount) = sym (
      ap (λ p. amount - (p - amount_of b.bets m)) (st.puts m in_hand)
      ∙ ap (λ s. amount - (chips_put b.setup moves m - s)) (st.bets m in_hand)
      )
  target_is spelled.Unit = sym (
      ap (λ p. min (if nat_lt p (unit b.setup b.street) then unit b.setup b.street else p + unit b.setup b.street) (all_in_seen b m)) (current_bet_is b moves st)
      ∙ ap (λ a. min (if nat_lt (current_bet b.setup moves b.street) (unit b.setup b.street) then unit b.setup b.street else current_bet b.setup moves b.street + unit b.setup b.street) a) (all_in_is b moves st m in_hand)
      )

  module _ (limit : Limit) (limit_is : limit_of b.setup.code ≡ limit) where
    owes_is : (l : Limit) → is_full_raise_to_call l b.setup moves b.street m ≡ is_reopened_by l b.full_raise (unit b.setup b.street) (to_call_seen b m)
    owes_is limits.No = sym (
        ap (λ f. nat_le f (to_call_seen b m)) st.full_raise
        ∙ ap (λ o. nat_le (full_raise b.setup moves b.street) o) (owed_is b moves st m in_hand)
        )
    owes_is limits.Pot = sym (
        ap (λ f. nat_le f (to_call_seen b m)) st.full_raise
        ∙ ap (λ o. nat_le (full_raise b.setup moves b.street) o) (owed_is b moves st m in_hand)
        )
    owes_is limits.Fixed = sym (ap (λ (o : ℕ). nat_le (unit b.setup b.street) (2 * o)) (owed_is b moves st m in_hand))

    pub open_is : (r : Reopen) → is_reopened r b.setup moves b.street m ≡ is_open_by r limit (flag_of b.moved m) b.full_raise (unit b.setup b.street) (to_call_seen b m)
    open_is reopen.Always = refl
    open_is reopen.Full =
        ap (λ l. not (has_moved moves b.street m) || is_full_raise_to_call l b.setup moves b.street m) limit_is
        ∙ ap (λ o. not (has_moved moves b.street m) || o) (owes_is limit)
        ∙ ap (λ f. not f || is_reopened_by limit b.full_raise (unit b.setup b.street) (to_call_seen b m)) (sym (st.moved m in_hand))

    cap_is : (caps : Option (List ℕ)) → ((k : ℕ) → cap_at caps k ≤ most_raises) → is_within_cap caps moves b.street ≡ is_within_cap_by caps b.raises b.street
    cap_is None fit = refl
    cap_is (Some caps) fit = ap (λ c. nat_lt 4 b.street || c) (counts (raises_on moves b.street) b.raises (slice_index caps (b.street - 1)) st.raises (fit (b.street - 1)))
      where
        counts : (r n cap : ℕ) → n ≡ min r most_raises → cap ≤ most_raises → nat_lt r cap ≡ nat_lt n cap
        counts r n cap is fits = elim (cases_lt r cap) [
          | inl less ↦ lt-ltb r cap less ∙ sym (lt-ltb n cap (omega (arith, is, less)))
          | inr reach ↦ le-ltb r cap reach ∙ sym (le-ltb n cap (omega (arith, is, fits, reach)))
        ]

    pub may_raise_is : may_raise b.setup b.rules moves b.street m ≡ may_raise_seen limit b m
    may_raise_is = sym (
        ap (λ o. o && nat_lt (current_bet_seen b) (all_in_seen b m) && is_within_cap_by b.rules.caps b.raises b.street && is_open_by b.rules.reopen limit (flag_of b.moved m) b.full_raise (unit b.setup b.street) (to_call_seen b m)) (opponent_is b moves st m)
        ∙ ap (λ p. has_able_opponent b.setup moves m && nat_lt p (all_in_seen b m) && is_within_cap_by b.rules.caps b.raises b.street && is_open_by b.rules.reopen limit (flag_of b.moved m) b.full_raise (unit b.setup b.street) (to_call_seen b m)) (current_bet_is b moves st)
        ∙ ap (λ a. has_able_opponent b.setup moves m && nat_lt (current_bet b.setup moves b.street) a && is_within_cap_by b.rules.caps b.raises b.street && is_open_by b.rules.reopen limit (flag_of b.moved m) b.full_raise (unit b.setup b.street) (to_call_seen b m)) (all_in_is b moves st m in_hand)
        ∙ ap (λ c. has_able_opponent b.setup moves m && nat_lt (current_bet b.setup moves b.street) (all_in b.setup moves b.street m) && c && is_open_by b.rules.reopen limit (flag_of b.moved m) b.full_raise (unit b.setup b.street) (to_call_seen b m)) (sym (cap_is b.rules.caps b.caps_fit))
        ∙ ap (λ o. has_able_opponent b.setup moves m && nat_lt (current_bet b.setup moves b.street) (all_in b.setup moves b.street m) && is_within_cap b.rules.caps moves b.street && o) (sym (open_is b.rules.reopen))
        )

    floor_is : (r : Reopen) → targets.floor r b.setup moves b.street ≡ floor_by r (starting_bet b.setup b.street) b
    floor_is reopen.Full = sym (
        ap (λ p. p + b.full_raise) (current_bet_is b moves st)
        ∙ ap (λ f. current_bet b.setup moves b.street + f) st.full_raise
        )
    floor_is reopen.Always = ap (λ d. max (starting_bet b.setup b.street + b.setup.min_bet) d) (sym st.always_floor)

    least_is : current_bet_seen b + b.full_raise ≡ current_bet b.setup moves b.street + full_raise b.setup moves b.street
    least_is = ap (λ p. p + b.full_raise) (current_bet_is b moves st) ∙ ap (λ f. current_bet b.setup moves b.street + f) st.full_raise

    total_is : total_of b.puts ≡ all_chips_put b.setup moves
    total_is =
        ap (λ n. sum_by (amount_of b.puts) (seats_of n)) b.put_seats
        ∙ sum-seats (amount_of b.puts) (chips_put b.setup moves) b.setup.stacks.seats (λ k low high. st.puts k (record { first = low; last = high }))
        ∙ sym (sum-map (chips_put b.setup moves) (seats_of b.setup.stacks.seats))

    ceiling_is : ceiling_seen b m ≡ pot_ceiling b.setup moves b.street m
    ceiling_is =
        ap (λ l. max l (current_bet_seen b + total_of b.puts + to_call_seen b m)) least_is
        ∙ ap (λ p. max (current_bet b.setup moves b.street + full_raise b.setup moves b.street) (p + total_of b.puts + to_call_seen b m)) (current_bet_is b moves st)
        ∙ ap (λ t. max (current_bet b.setup moves b.street + full_raise b.setup moves b.street) (current_bet b.setup moves b.street + t + to_call_seen b m)) total_is
        ∙ ap (λ o. max (current_bet b.setup moves b.street + full_raise b.setup moves b.street) (current_bet b.setup moves b.street + all_chips_put b.setup moves + o)) (owed_is b moves st m in_hand)

    full_raise_targets_is : full_raise_targets_seen b ≡ full_targets b.setup moves b.street
    full_raise_targets_is =
        ap (λ p. full_raise_targets_by p (unit b.setup b.street) b.full_bet) (current_bet_is b moves st)
        ∙ ap (full_raise_targets_by (current_bet b.setup moves b.street) (unit b.setup b.street)) st.full_bet

    plain_target : (l : Limit) (r : Reopen) (target : ℕ) → is_target_in l r b.setup moves b.street m target ≡ is_legal_by l (targets.floor r b.setup moves b.street) (current_bet b.setup moves b.street + full_raise b.setup moves b.street) (all_in b.setup moves b.street m) (pot_ceiling b.setup moves b.street m) (full_targets b.setup moves b.street) target
    plain_target limits.No r target = refl
    plain_target limits.Pot r target = refl
    plain_target limits.Fixed r target = refl

    plain_least : (l : Limit) (r : Reopen) → least_target_in l r b.setup moves b.street m ≡ least_by l (targets.floor r b.setup moves b.street) (current_bet b.setup moves b.street + full_raise b.setup moves b.street) (all_in b.setup moves b.street m) (full_targets b.setup moves b.street)
    plain_least limits.No r = refl
    plain_least limits.Pot r = refl
    plain_least limits.Fixed r = refl

    plain_greatest : (l : Limit) → greatest_target_in l b.setup moves b.street m ≡ greatest_by l (all_in b.setup moves b.street m) (pot_ceiling b.setup moves b.street m) (full_targets b.setup moves b.street)
    plain_greatest limits.No = refl
    plain_greatest limits.Pot = refl
    plain_greatest limits.Fixed = refl

    pub legal_is : (r : Reopen) (target : ℕ) → is_legal_target r b.setup moves b.street m target ≡ is_legal_seen limit b (floor_by r (starting_bet b.setup b.street) b) m target
    legal_is r target =
        ap (λ l. is_target_in l r b.setup moves b.street m target) limit_is
        ∙ plain_target limit r target
        ∙ ap (λ f. is_legal_by limit f (current_bet b.setup moves b.street + full_raise b.setup moves b.street) (all_in b.setup moves b.street m) (pot_ceiling b.setup moves b.street m) (full_targets b.setup moves b.street) target) (floor_is r)
        ∙ ap (λ l. is_legal_by limit (floor_by r (starting_bet b.setup b.street) b) l (all_in b.setup moves b.street m) (pot_ceiling b.setup moves b.street m) (full_targets b.setup moves b.street) target) (sym least_is)
        ∙ ap (λ a. is_legal_by limit (floor_by r (starting_bet b.setup b.street) b) (current_bet_seen b + b.full_raise) a (pot_ceiling b.setup moves b.street m) (full_targets b.setup moves b.street) target) (sym (all_in_is b moves st m in_hand))
        ∙ ap (λ c. is_legal_by limit (floor_by r (starting_bet b.setup b.street) b) (current_bet_seen b + b.full_raise) (all_in_seen b m) c (full_targets b.setup moves b.street) target) (sym ceiling_is)
        ∙ ap (λ fs. is_legal_by limit (floor_by r (starting_bet b.setup b.street) b) (current_bet_seen b + b.full_raise) (all_in_seen b m) (ceiling_seen b m) fs target) (sym full_raise_targets_is)

    pub least_target_is : (r : Reopen) → least_target r b.setup moves b.street m ≡ least_seen limit b (floor_by r (starting_bet b.setup b.street) b) m
    least_target_is r =
        ap (λ l. least_target_in l r b.setup moves b.street m) limit_is
        ∙ plain_least limit r
        ∙ ap (λ f. least_by limit f (current_bet b.setup moves b.street + full_raise b.setup moves b.street) (all_in b.setup moves b.street m) (full_targets b.setup moves b.street)) (floor_is r)
        ∙ ap (λ l. least_by limit (floor_by r (starting_bet b.setup b.street) b) l (all_in b.setup moves b.street m) (full_targets b.setup moves b.street)) (sym least_is)
        ∙ ap (λ a. least_by limit (floor_by r (starting_bet b.setup b.street) b) (current_bet_seen b + b.full_raise) a (full_targets b.setup moves b.street)) (sym (all_in_is b moves st m in_hand))
        ∙ ap (least_by limit (floor_by r (starting_bet b.setup b.street) b) (current_bet_seen b + b.full_raise) (all_in_seen b m)) (sym full_raise_targets_is)

    pub greatest_is : greatest_target b.setup moves b.street m ≡ greatest_seen limit b m
    greatest_is =
        ap (λ l. greatest_target_in l b.setup moves b.street m) limit_is
        ∙ plain_greatest limit
        ∙ ap (λ a. greatest_by limit a (pot_ceiling b.setup moves b.street m) (full_targets b.setup moves b.street)) (sym (all_in_is b moves st m in_hand))
        ∙ ap (λ c. greatest_by limit (all_in_seen b m) c (full_targets b.setup moves b.street)) (sym ceiling_is)
        ∙ ap (greatest_by limit (all_in_seen b m) (ceiling_seen b m)) (sym full_raise_targets_is)

    pub raise_to_is : (amount : Spelled) →
        (if not (may_raise b.setup b.rules moves b.street m) then Some reasons.RaiseClosed
        else if is_below_targets b.setup b.rules moves b.street m (raise_target b.setup moves b.street m amount) then Some reasons.RaiseTooSmall
        else if is_above_targets b.setup moves b.street m (raise_target b.setup moves b.street m amount) then Some reasons.RaiseTooBig
        else None) ≡ raise_to_reason limit b (floor_by b.rules.reopen (starting_bet b.setup b.street) b) m (target_seen b m amount)
    raise_to_is amount =
        ap (λ t. if not (may_raise b.setup b.rules moves b.street m) then Some reasons.RaiseClosed
        else if is_below_targets b.setup b.rules moves b.street m t then Some reasons.RaiseTooSmall
        else if is_above_targets b.setup moves b.street m t then Some reasons.RaiseTooBig
        else None) (target_is amount)
        ∙ ap (λ r. if not r then Some reasons.RaiseClosed
        else if is_below_targets b.setup b.rules moves b.street m (target_seen b m amount) then Some reasons.RaiseTooSmall
        else if is_above_targets b.setup moves b.street m (target_seen b m amount) then Some reasons.RaiseTooBig
        else None) may_raise_is
        ∙ ap (λ l. if not (may_raise_seen limit b m) then Some reasons.RaiseClosed
        else if not l && nat_lt (target_seen b m amount) (greatest_target b.setup moves b.street m) then Some reasons.RaiseTooSmall
        else if nat_lt (greatest_target b.setup moves b.street m) (target_seen b m amount) then Some reasons.RaiseTooBig
        else None) (legal_is b.rules.reopen (target_seen b m amount))
        ∙ ap (λ g. if not (may_raise_seen limit b m) then Some reasons.RaiseClosed
        else if not (is_legal_seen limit b (floor_by b.rules.reopen (starting_bet b.setup b.street) b) m (target_seen b m amount)) && nat_lt (target_seen b m amount) g then Some reasons.RaiseTooSmall
        else if nat_lt g (target_seen b m amount) then Some reasons.RaiseTooBig
        else None) greatest_is

module _ (b : BettingState) (past : Past) (stands : StandsFor b past) where
  refused : ℕ → Spelled → Option Illegal
  refused seat amount =
      if not (may_raise b.setup b.rules (moves_of past) b.street seat) then Some reasons.RaiseClosed
      else if is_below_targets b.setup b.rules (moves_of past) b.street seat (raise_target b.setup (moves_of past) b.street seat amount) then Some reasons.RaiseTooSmall
      else if is_above_targets b.setup (moves_of past) b.street seat (raise_target b.setup (moves_of past) b.street seat amount) then Some reasons.RaiseTooBig
      else None

  abbrev refused_by : InTurn → Option ℕ → Spelled → Option Illegal
  refused_by t named amount =
      if is_other_seat b.setup (moves_of past) named t then Some reasons.WrongSeat
      else if is_undecided t then Some reasons.UpCardUnknown
      else refused (actor_of named t) amount

  -- a raise may come at a move and at a bring-in
  refused_at : (due : Due) → b.due ≡ due → now_reason true true due ≡ None → (named : Option ℕ) (amount : Spelled) → why b.setup b.rules past (said.Raise named amount) ≡ refused_by (player_to_act b.setup (up_cards b.setup.code past) (moves_of past) b.street) named amount
  unfolding why refused
  refused_at dues.Move due_is now named amount =
      ap (λ now. first_reason (all_reasons b.setup b.rules past now (said.Raise named amount))) stands.turn_is
      ∙ ap (λ d. first_reason (all_reasons b.setup b.rules past (b.street, d) (said.Raise named amount))) due_is
  refused_at dues.BringIn due_is now named amount =
      ap (λ now. first_reason (all_reasons b.setup b.rules past now (said.Raise named amount))) stands.turn_is
      ∙ ap (λ d. first_reason (all_reasons b.setup b.rules past (b.street, d) (said.Raise named amount))) due_is
  refused_at dues.Over due_is now named amount = absurd (cc)
  refused_at (dues.Deal street) due_is now named amount = absurd (cc)
  refused_at (dues.Draw street) due_is now named amount = absurd (cc)
  refused_at dues.Show due_is now named amount = absurd (cc)

  pub raise_undecided : player_to_act b.setup (up_cards b.setup.code past) (moves_of past) b.street ≡ Undecided → (due : Due) → b.due ≡ due → now_reason true true due ≡ None → (named : Option ℕ) (amount : Spelled) → why b.setup b.rules past (said.Raise named amount) ≡ (if is_other_seat b.setup (moves_of past) named Undecided then Some reasons.WrongSeat else Some reasons.UpCardUnknown)
  raise_undecided player_to_act_is due due_is now named amount = refused_at due due_is now named amount ∙ ap (λ (t : InTurn). refused_by t named amount) player_to_act_is

module _ (b : BettingState) (past : Past) (stands : StandsFor b past) (limit : Limit) (limit_is : limit_of b.setup.code ≡ limit) (m : ℕ) (in_hand : IsSeatOf b.setup.stacks.seats m) (player_to_act_is : player_to_act b.setup (up_cards b.setup.code past) (moves_of past) b.street ≡ TheSeat m) where
  pub why_raise : (due : Due) → b.due ≡ due → now_reason true true due ≡ None → (named : Option ℕ) (amount : Spelled) → why b.setup b.rules past (said.Raise named amount) ≡ raise_reason limit b (floor_by b.rules.reopen (starting_bet b.setup b.street) b) named amount m
  unfolding refused
  why_raise due due_is now named amount =
      refused_at b past stands due due_is now named amount
      ∙ ap (λ (t : InTurn). refused_by b past stands t named amount) player_to_act_is
      ∙ ap (λ o. if o then Some reasons.WrongSeat else refused b past stands (actor_of named (TheSeat m)) amount) (other_is b.setup (moves_of past) named m)
      ∙ read_player_to_act (λ seat. refused b past stands seat amount) named m
      ∙ ap (λ r. if is_another named m then Some reasons.WrongSeat else r) (raise_to_is b (moves_of past) stands.standing m in_hand limit limit_is amount)
