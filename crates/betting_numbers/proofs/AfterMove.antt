-- After a move the running numbers stand for the moves with it.
use Rattle.std.proofs.Common.{◌≡◌, ◌≢◌, ℕ, ◌+◌, ◌-◌, ◌*◌, Bool, true, false, ◌&&◌, ◌||◌, ◌==◌, not, nat_le, min, max, cond, if◌then◌else◌, inl, inr, List, ◌∷◌, count_by, refl, sym, ap, subst, ◌∙◌, arith}
use Rattle.std.specs.List.{list_any}
use Rattle.std.proofs.lemmas.Bool.{cases_eq, eq-eqb}
use Rattle.card_set.proofs.Counting.{count_by-cons}
use Rattle.chip_ledger.specs.LiveRow.{flag_of}
use Rattle.chip_ledger.specs.SeatRow.{amount_of}
use Rattle.play_event.specs.Past.{Move, Act, moves_on, is_folding, is_raising, is_bringing_in}
use Rattle.play_event.specs.Streets as streets
use Rattle.play_event.specs.Chips.{chips_put, street_chips, chips_added, brought}
use Rattle.play_event.specs.Seats.{is_live}
use Rattle.play_event.specs.CurrentBet as prices
use Rattle.play_event.specs.CurrentBet.{current_bet, doubled_raises}
use Rattle.chip_ledger.specs.Greatest.{greatest}
use Rattle.play_event.specs.Due.{has_acted_since_raise, has_opened_betting}
use Rattle.play_event.specs.Raising.{has_moved, raises_on}
use Rattle.betting_numbers.specs.declared.betting_state.BettingState.{BettingState}
use Rattle.betting_numbers.specs.Moving.{IsMoved, most_raises}
use Rattle.betting_numbers.specs.Standing.{Standing, newest_seat}
use Rattle.betting_numbers.proofs.Bridge.{current_bet_is}
use Rattle.card_set.proofs.Numbers.{different_number, same_number}
use Rattle.chip_ledger.specs.Seat.{IsSeatOf}

-- by cases: this seat, or another
by_seat : (P : ℕ → Type 0) (seat k : ℕ) → P seat → (k ≢ seat → P k) → P k
by_seat P seat k here there = elim (cases_eq k seat) [
  | inl same ↦ subst P (sym same) here
  | inr other ↦ there other
]

-- a move of this street is its newest
pub on_street : (street : ℕ) (move : Move) (before : List Move) → move.street ≡ street → moves_on street (move ∷ before) ≡ move ∷ moves_on street before
on_street street move before same = ap (λ b. cond b (move ∷ moves_on street before) (moves_on street before)) (eq-eqb move.street street same)

live_one_more : (f e x : Bool) → e ≡ true → (not x && not f) ≡ not ((f && e) || x)
live_one_more true e true is = ap (λ b. not (b || true)) (sym is)
live_one_more true e false is = ap (λ b. not (b || false)) (sym is)
live_one_more false e true is = refl
live_one_more false e false is = refl

live_as_before : (f e x : Bool) → e ≡ false → not x ≡ not ((f && e) || x)
live_as_before true e x is = ap (λ b. not (b || x)) (sym is)
live_as_before false e x is = refl

raise_count : (r : Bool) (n c : ℕ) → c ≡ min n most_raises → (if r then min (c + 1) most_raises else c) ≡ min (cond r 1 0 + n) most_raises
raise_count true n c is = omega (arith, is)
raise_count false n c is = omega (arith, is)

abbrev full_raise_by : Bool → ℕ → ℕ → ℕ
full_raise_by raised full rise = if raised && nat_le full rise then max rise full else full

abbrev full_bet_by : Bool → ℕ → ℕ → ℕ → ℕ
full_bet_by opens full unit target = if opens && nat_le (full + unit) target then target else full

doubled_one_more : (r : Bool) (twice : ℕ) (rest : List ℕ) → (if r then max twice (greatest rest) else greatest rest) ≡ greatest (if r then (twice ∷ rest) else rest)
doubled_one_more true twice rest = refl
doubled_one_more false twice rest = refl

module _ (b next : BettingState) (moves : List Move) (seat target unit : ℕ) (act : Act) (st : Standing b.setup b.street b moves) (in_hand : IsSeatOf b.setup.stacks.seats seat) (mv : IsMoved b next seat act target unit) (unit_is : unit ≡ streets.unit b.setup b.street) where
  abbrev pub the_move : Move
  the_move = record { street = b.street; seat = seat; act = act; from = street_chips b.setup moves b.street seat; to = target }

  this_street : moves_on b.street (the_move ∷ moves) ≡ the_move ∷ moves_on b.street moves
  this_street = on_street b.street the_move moves refl

  added_by : (k : ℕ) (mine : Bool) → (seat == k) ≡ mine → chips_added k (the_move ∷ moves) ≡ (if mine then target - street_chips b.setup moves b.street seat else 0) + chips_added k moves
  added_by k mine is = ap (λ e. (if e then target - street_chips b.setup moves b.street seat else 0) + chips_added k moves) is

  puts_after : (k : ℕ) → IsSeatOf b.setup.stacks.seats k → amount_of next.puts k ≡ chips_put b.setup (the_move ∷ moves) k
  puts_after k in_k =
      by_seat (λ k. IsSeatOf b.setup.stacks.seats k → amount_of next.puts k ≡ chips_put b.setup (the_move ∷ moves) k) seat k
      (λ i. omega (arith, mv.puts, st.puts seat in_hand, st.bets seat in_hand, added_by seat true (same_number seat)))
      (λ other i. omega (arith, mv.other_puts k i.first other, st.puts k i, added_by k false (different_number seat k other)))
      in_k

  street_added : (k : ℕ) (mine : Bool) → (seat == k) ≡ mine → street_chips b.setup (the_move ∷ moves) b.street k ≡ brought b.setup b.street k + ((if mine then target - street_chips b.setup moves b.street seat else 0) + chips_added k (moves_on b.street moves))
  street_added k mine is =
      ap (λ ms. brought b.setup b.street k + chips_added k ms) this_street
      ∙ ap (λ e. brought b.setup b.street k + ((if e then target - street_chips b.setup moves b.street seat else 0) + chips_added k (moves_on b.street moves))) is

  bets_after : (k : ℕ) → IsSeatOf b.setup.stacks.seats k → amount_of next.bets k ≡ street_chips b.setup (the_move ∷ moves) b.street k
  bets_after k in_k =
      by_seat (λ k. IsSeatOf b.setup.stacks.seats k → amount_of next.bets k ≡ street_chips b.setup (the_move ∷ moves) b.street k) seat k
      (λ i. omega (arith, mv.bets, st.bets seat in_hand, street_added seat true (same_number seat)))
      (λ other i. omega (arith, mv.other_bets k i.first other, st.bets k i, street_added k false (different_number seat k other)))
      in_k

  live_after : (k : ℕ) → IsSeatOf b.setup.stacks.seats k → flag_of next.live k ≡ is_live (the_move ∷ moves) k
  live_after k in_k =
      by_seat (λ k. IsSeatOf b.setup.stacks.seats k → flag_of next.live k ≡ is_live (the_move ∷ moves) k) seat k
      (λ i. mv.live ∙ ap (λ l. l && not (is_folding act)) (st.live seat in_hand) ∙ live_one_more (is_folding act) (seat == seat) (list_any (λ move. is_folding move.act && (move.seat == seat)) moves) (same_number seat))
      (λ other i. mv.other_live k i.first other ∙ st.live k i ∙ live_as_before (is_folding act) (seat == k) (list_any (λ move. is_folding move.act && (move.seat == k)) moves) (different_number seat k other))
      in_k

  moved_by : (k : ℕ) (mine : Bool) → (seat == k) ≡ mine → has_moved (the_move ∷ moves) b.street k ≡ (mine || has_moved moves b.street k)
  moved_by k mine is =
      ap (list_any (λ move. move.seat == k)) this_street
      ∙ ap (λ e. e || has_moved moves b.street k) is

  moved_after : (k : ℕ) → IsSeatOf b.setup.stacks.seats k → flag_of next.moved k ≡ has_moved (the_move ∷ moves) b.street k
  moved_after k in_k =
      by_seat (λ k. IsSeatOf b.setup.stacks.seats k → flag_of next.moved k ≡ has_moved (the_move ∷ moves) b.street k) seat k
      (λ i. mv.moved ∙ sym (moved_by seat true (same_number seat)))
      (λ other i. mv.other_moved k i.first other ∙ st.moved k i ∙ sym (moved_by k false (different_number seat k other)))
      in_k

  since_by : (k : ℕ) (mine : Bool) → (seat == k) ≡ mine → has_acted_since_raise b.setup (the_move ∷ moves) b.street k ≡ (mine || (nat_le target (current_bet b.setup moves b.street) && has_acted_since_raise b.setup moves b.street k))
  since_by k mine is =
      ap (λ e. if e then ((seat == k) || (nat_le target (current_bet b.setup moves b.street) && has_acted_since_raise b.setup moves b.street k)) else has_acted_since_raise b.setup moves b.street k) (same_number b.street)
      ∙ ap (λ e. e || (nat_le target (current_bet b.setup moves b.street) && has_acted_since_raise b.setup moves b.street k)) is

  since_after : (k : ℕ) → IsSeatOf b.setup.stacks.seats k → flag_of next.acted_since_raise k ≡ has_acted_since_raise b.setup (the_move ∷ moves) b.street k
  since_after k in_k =
      by_seat (λ k. IsSeatOf b.setup.stacks.seats k → flag_of next.acted_since_raise k ≡ has_acted_since_raise b.setup (the_move ∷ moves) b.street k) seat k
      (λ i. mv.acted_since_raise ∙ sym (since_by seat true (same_number seat)))
      (λ other i. mv.other_since k i.first other
      ∙ ap (λ p. nat_le target p && flag_of b.acted_since_raise k) (current_bet_is b moves st)
      ∙ ap (λ f. nat_le target (current_bet b.setup moves b.street) && f) (st.acted_since_raise k i)
      ∙ sym (since_by k false (different_number seat k other)))
      in_k

  raises_after : next.raises ≡ min (raises_on (the_move ∷ moves) b.street) most_raises
  raises_after =
      mv.raises
      ∙ raise_count (is_raising act) (raises_on moves b.street) b.raises st.raises
      ∙ ap (λ n. min n most_raises) (
      sym (count_by-cons (λ (move : Move). is_raising move.act) the_move (moves_on b.street moves))
      ∙ ap (count_by (λ (move : Move). is_raising move.act)) (sym this_street)
      )

  full_raise_after : next.full_raise ≡ prices.full_raise b.setup (the_move ∷ moves) b.street
  full_raise_after =
      mv.full_raise
      ∙ ap (λ p. full_raise_by (is_raising act) b.full_raise (target - p)) (current_bet_is b moves st)
      ∙ ap (λ f. full_raise_by (is_raising act) f (target - current_bet b.setup moves b.street)) st.full_raise
      ∙ sym (ap (λ e. if e && is_raising act && nat_le (prices.full_raise b.setup moves b.street) (target - current_bet b.setup moves b.street) then max (target - current_bet b.setup moves b.street) (prices.full_raise b.setup moves b.street) else prices.full_raise b.setup moves b.street) (same_number b.street))

  full_bet_after : next.full_bet ≡ prices.full_bet b.setup (the_move ∷ moves) b.street
  full_bet_after =
      mv.full_bet
      ∙ ap (λ u. full_bet_by (is_raising act || is_bringing_in act) b.full_bet u target) unit_is
      ∙ ap (λ f. full_bet_by (is_raising act || is_bringing_in act) f (streets.unit b.setup b.street) target) st.full_bet
      ∙ sym (ap (λ e. if e && (is_raising act || is_bringing_in act) && nat_le (prices.full_bet b.setup moves b.street + streets.unit b.setup b.street) target then target else prices.full_bet b.setup moves b.street) (same_number b.street))

  always_floor_after : next.always_floor ≡ greatest (doubled_raises b.setup (the_move ∷ moves) b.street)
  always_floor_after =
      mv.always_floor
      ∙ ap (λ p. if is_raising act then max (2 * target - p) b.always_floor else b.always_floor) (current_bet_is b moves st)
      ∙ ap (λ d. if is_raising act then max (2 * target - current_bet b.setup moves b.street) d else d) st.always_floor
      ∙ doubled_one_more (is_raising act) (2 * target - current_bet b.setup moves b.street) (doubled_raises b.setup moves b.street)
      ∙ sym (ap (λ e. greatest (if e && is_raising act then ((2 * target - current_bet b.setup moves b.street) ∷ doubled_raises b.setup moves b.street) else doubled_raises b.setup moves b.street)) (same_number b.street))

  opened_after : next.bet_or_bring_in_made ≡ list_any (λ move. has_opened_betting move.act) (moves_on b.street (the_move ∷ moves))
  opened_after =
      mv.bet_or_bring_in_made
      ∙ ap (λ o. has_opened_betting act || o) st.bet_or_bring_in_made
      ∙ sym (ap (list_any (λ (move : Move). has_opened_betting move.act)) this_street)

  standing_there : Standing b.setup b.street next (the_move ∷ moves)
  standing_there = record {
    puts = puts_after;
    bets = bets_after;
    live = live_after;
    moved = moved_after;
    acted_since_raise = since_after;
    last = mv.last ∙ sym (ap newest_seat this_street);
    raises = raises_after;
    full_raise = full_raise_after;
    full_bet = full_bet_after;
    always_floor = always_floor_after;
    bet_or_bring_in_made = opened_after;
  }

  -- so the running numbers stand for the moves with one more
  pub standing_after : Standing next.setup next.street next (the_move ∷ moves)
  standing_after =
      subst (λ s. Standing s next.street next (the_move ∷ moves)) (sym mv.setup)
      (subst (λ n. Standing b.setup n next (the_move ∷ moves)) (sym mv.street) standing_there)
