-- The current bet and the counts change with the seat that moves.
use Rattle.std.proofs.Common.{rules, ◌≡◌, ◌≤◌, ◌+◌, ◌-◌, ◌*◌, ◌&&◌, ℕ, Bool, true, false, nat_lt, nat_le, not, if◌then◌else◌, sum_by, zero, suc, inl, inr, refl, sym, ap, subst, ◌∙◌, arith}
use Rattle.std.proofs.lemmas.Bool.{true≢false, and_parts, cases_eq}
use Rattle.std.proofs.lemmas.Bool.Decides.{nat_tests}
use Rattle.std.proofs.lemmas.List.Sums.{sum_by-cons}
use Rattle.std.specs.List.{range_with_len}
use Rattle.chip_ledger.specs.declared.seat_row.SeatRow.{SeatRow}
use Rattle.chip_ledger.specs.declared.seat_row.TheConstants.{MOST_AMOUNT}
use Rattle.chip_ledger.specs.LiveRow.{flag_of}
use Rattle.chip_ledger.specs.Seat.{seats_of}
use Rattle.chip_ledger.specs.SeatRow.{amount_of, total_of}
use Rattle.play_event.specs.Past.{is_folding}
use Rattle.play_event.specs.Played.{act_said}
use Rattle.betting_numbers.proofs.OneChanged.{count_fell, greatest_changed, sum_changed}
use Rattle.betting_numbers.proofs.betting_state.BettingState.apply_move.Goals as goal

total_within : (row : SeatRow) (first n : ℕ) → sum_by (amount_of row) (range_with_len first n) ≤ n * MOST_AMOUNT
total_within row first zero = omega arith
total_within row first (suc n) = omega (arith, sum_by-cons (amount_of row) first (range_with_len (first + 1) n), row.bounded (first - 1), total_within row (first + 1) n)

pub invariant_of-self-clause-pot_is : goal.invariant_of-self-clause-pot_is
invariant_of-self-clause-pot_is c =
    let b = c.args.self.now in
    let puts = c.set-2.new.self in
    let seat = c.args.seat.number in
    let changed = sum_changed (amount_of b.puts) (amount_of puts) 1 b.puts.seats seat c.args.seat.first (omega (arith, c.requires.in_hand, b.put_seats)) (λ j from to other. c.set-2.ensures.others j from other) in
    let same : total_of puts ≡ sum_by (amount_of puts) (seats_of b.puts.seats) = ap (λ n. sum_by (amount_of puts) (seats_of n)) c.set-2.ensures.seats in
    omega (arith, same, changed, c.set-2.ensures.amount, c.get-put.ensures, b.pot_is)

pub invariant_of-self-clause-pot_bounded : goal.invariant_of-self-clause-pot_bounded
invariant_of-self-clause-pot_bounded c =
    let few = total_within c.set-2.new.self 1 c.set-2.new.self.seats in
    omega (arith, invariant_of-self-clause-pot_is c, few, c.set-2.new.self.greatest)

pub invariant_of-self-clause-current_bet_is : goal.invariant_of-self-clause-current_bet_is
invariant_of-self-clause-current_bet_is c =
    let b = c.args.self.now in
    let seat = c.args.seat.number in
    let here : amount_of c.set.new.self seat ≡ amount_of b.bets seat + (c.args.target - amount_of b.bets seat) = omega (arith, c.set.ensures.amount, c.get-bet.ensures, c.saturating_sub-added.ensures) in
    let most = greatest_changed (amount_of b.bets) (amount_of c.set.new.self) 1 b.setup.stacks.seats seat c.args.seat.first (omega (arith, c.requires.in_hand)) (omega (arith, here)) (λ j from to other. c.set.ensures.others j from other) in
    omega (arith, most, c.set.ensures.amount, c.max-self.ensures, b.current_bet_is)

pub invariant_of-self-clause-live_is : goal.invariant_of-self-clause-live_is
invariant_of-self-clause-live_is c =
    let b = c.args.self.now in
    let seat = c.args.seat.number in
    let was = c.get-was_live.result in
    let is = c.live_after-live.result in
    let fell = count_fell (flag_of b.live) (flag_of c.set-3.new.self) 1 b.setup.stacks.seats seat was is c.args.seat.first (omega (arith, c.requires.in_hand)) c.get-was_live.ensures (sym c.set-3.ensures.flag) (λ yes. (and_parts was (not (is_folding (act_said c.args.act))) (sym c.live_after-live.ensures ∙ yes)).0) (λ j from to other. c.set-3.ensures.others j from other) in
    c.count_after-live_count.ensures ∙ ap (λ (count : ℕ). if was && not is then count - 1 else count) b.live_is ∙ sym fell

able_before : (was is : Bool) (stack put added : ℕ) → (is ≡ true → was ≡ true) → (is && nat_lt 0 (stack - (put + added))) ≡ true → (was && nat_lt 0 (stack - put)) ≡ true
able_before true true stack put added stays able = grind (arith, nat_tests)
able_before true false stack put added stays able = absurd (true≢false (sym able))
able_before false true stack put added stays able = absurd (true≢false (sym (stays refl)))
able_before false false stack put added stays able = absurd (true≢false (sym able))

pub invariant_of-self-clause-able_is : goal.invariant_of-self-clause-able_is
invariant_of-self-clause-able_is c =
    let b = c.args.self.now in
    let seat = c.args.seat.number in
    let live = c.set-3.new.self in
    let puts = c.set-2.new.self in
    let put = c.get-put.result in
    let added = c.saturating_sub-added.result in
    let was_live = c.get-was_live.result in
    let is_live = c.live_after-live.result in
    let was = c.can_act-was_able.result in
    let is = c.able_after-able.result in
    let before : ℕ → Bool = λ n. flag_of b.live n && nat_lt 0 (amount_of b.setup.stacks n - amount_of b.puts n) in
    let after : ℕ → Bool = λ n. flag_of live n && nat_lt 0 (amount_of b.setup.stacks n - amount_of puts n) in
    let is_is : is ≡ after seat =
    c.able_after-able.ensures
    ∙ ap (λ (l : Bool). l && nat_lt 0 (c.get.result - (put + added))) (sym c.set-3.ensures.flag)
    ∙ ap (λ (s : ℕ). flag_of live seat && nat_lt 0 (s - (put + added))) c.get.ensures
    ∙ ap (λ (n : ℕ). flag_of live seat && nat_lt 0 (amount_of b.setup.stacks seat - n)) (sym c.set-2.ensures.amount) in
    let was_is : was ≡ (was_live && nat_lt 0 (c.get.result - put)) =
    c.can_act-was_able.ensures
    ∙ ap (λ (l : Bool). l && nat_lt 0 (amount_of b.setup.stacks seat - amount_of b.puts seat)) (sym c.get-was_live.ensures)
    ∙ ap (λ (s : ℕ). was_live && nat_lt 0 (s - amount_of b.puts seat)) (sym c.get.ensures)
    ∙ ap (λ (n : ℕ). was_live && nat_lt 0 (c.get.result - n)) (sym c.get-put.ensures) in
    let stays : is_live ≡ true → was_live ≡ true = λ yes. (and_parts was_live (not (is_folding (act_said c.args.act))) (sym c.live_after-live.ensures ∙ yes)).0 in
    let fell = count_fell before after 1 b.setup.stacks.seats seat was is c.args.seat.first (omega (arith, c.requires.in_hand)) c.can_act-was_able.ensures is_is
    (λ yes. was_is ∙ able_before was_live is_live c.get.result put added stays (sym c.able_after-able.ensures ∙ yes))
    (λ j from to other. ap (λ (l : Bool). l && nat_lt 0 (amount_of b.setup.stacks j - amount_of puts j)) (c.set-3.ensures.others j from other)
    ∙ ap (λ (n : ℕ). flag_of b.live j && nat_lt 0 (amount_of b.setup.stacks j - n)) (c.set-2.ensures.others j from other)) in
    c.count_after-able_count.ensures ∙ ap (λ (count : ℕ). if was && not is then count - 1 else count) b.able_is ∙ sym fell

pub invariant_of-self-clause-within : goal.invariant_of-self-clause-within
invariant_of-self-clause-within c = λ n low.
    let b = c.args.self.now in
    let seat = c.args.seat.number in
    elim (cases_eq n seat) [
      | inl same ↦
          let here : amount_of c.set-2.new.self seat ≤ amount_of b.setup.stacks seat = omega (arith, c.set-2.ensures.amount, c.get-put.ensures, c.get-bet.ensures, c.saturating_sub-added.ensures, c.requires.reach, b.within seat c.args.seat.first) in
          subst (λ (k : ℕ). amount_of c.set-2.new.self k ≤ amount_of b.setup.stacks k) (sym same) here
      | inr other ↦ omega (arith, c.set-2.ensures.others n low other, b.within n low)
    ]

pub invariant_of-self-clause-inside : goal.invariant_of-self-clause-inside
invariant_of-self-clause-inside c = λ n low.
    let b = c.args.self.now in
    let seat = c.args.seat.number in
    elim (cases_eq n seat) [
      | inl same ↦
          let here : amount_of c.set.new.self seat ≤ amount_of c.set-2.new.self seat = omega (arith, c.set.ensures.amount, c.set-2.ensures.amount, c.get-put.ensures, c.get-bet.ensures, b.inside seat c.args.seat.first) in
          subst (λ (k : ℕ). amount_of c.set.new.self k ≤ amount_of c.set-2.new.self k) (sym same) here
      | inr other ↦ omega (arith, c.set.ensures.others n low other, c.set-2.ensures.others n low other, b.inside n low)
    ]

pub returns : goal.returns
returns c = record {
  setup = refl;
  rules = refl;
  street = refl;
  bets = omega (arith, c.set.ensures.amount, c.get-bet.ensures, c.saturating_sub-added.ensures);
  other_bets = c.set.ensures.others;
  puts = omega (arith, c.set-2.ensures.amount, c.get-bet.ensures, c.get-put.ensures, c.saturating_sub-added.ensures);
  other_puts = c.set-2.ensures.others;
  live = c.set-3.ensures.flag ∙ c.live_after-live.ensures ∙ ap (λ live. live && not (is_folding (act_said c.args.act))) c.get-was_live.ensures;
  other_live = c.set-3.ensures.others;
  moved = c.set-4.ensures.flag;
  other_moved = c.set-4.ensures.others;
  acted_since_raise = c.set-5.ensures.flag;
  other_since = λ n low other. c.set-5.ensures.others n low other ∙ c.keep.ensures.flags n ∙ ap (λ current_bet. nat_le c.args.target current_bet && flag_of c.args.self.now.acted_since_raise n) c.args.self.now.current_bet_is;
  last = refl;
  raises = search rules;
  full_raise = search rules;
  full_bet = search rules;
  always_floor = search rules;
  bet_or_bring_in_made = search rules;
}
