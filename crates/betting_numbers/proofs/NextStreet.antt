-- When the next street begins, the running numbers stand for the same moves.
use Rattle.std.proofs.Common.{◌≡◌, ℕ, zero, suc, ◌+◌, ◌-◌, ◌*◌, ◌<◌, ◌≤◌, Bool, true, false, ◌&&◌, ◌||◌, ◌==◌, nat_le, min, max, if◌then◌else◌, List, [], ◌∷◌, map, count_by, refl, sym, ap, subst, ◌∙◌, arith}
use Rattle.std.specs.List.{list_any, range_with_len}
use Rattle.std.proofs.lemmas.Bool.{ne_eqb}
use Rattle.chip_ledger.specs.SeatRow.{amount_of}
use Rattle.play_event.specs.declared.setup.Setup.{Setup}
use Rattle.play_event.specs.Past.{Move, moves_on, is_raising, is_bringing_in}
use Rattle.play_event.specs.Streets as streets
use Rattle.play_event.specs.Chips.{street_chips, chips_added, brought, blind_posted}
use Rattle.play_event.specs.CurrentBet as prices
use Rattle.play_event.specs.CurrentBet.{current_bet, rise, doubled_raises, starting_bet}
use Rattle.chip_ledger.specs.Greatest.{greatest}
use Rattle.play_event.specs.Due.{has_acted_since_raise, has_opened_betting}
use Rattle.betting_numbers.specs.declared.betting_state.BettingState.{BettingState}
use Rattle.betting_numbers.specs.Moving.{IsNextStreet, most_raises}
use Rattle.betting_numbers.specs.Standing.{Standing, newest_seat}
use Rattle.play_laws.specs.Walk.{has_no_move_later}
use Rattle.play_laws.proofs.Later.{newest_other, none_on}
use Rattle.chip_ledger.specs.Seat.{IsSeatOf}

pub none_since : (setup : Setup) (moves : List Move) (street later seat : ℕ) → has_no_move_later moves street ≡ true → street < later → has_acted_since_raise setup moves later seat ≡ false
none_since setup [] street later seat early less = refl
none_since setup (move ∷ before) street later seat early less =
    let parts = newest_other move before street later early less in
    ap (λ b. if b then ((move.seat == seat) || (nat_le move.to (current_bet setup before later) && has_acted_since_raise setup before later seat)) else has_acted_since_raise setup before later seat) parts.0
    ∙ none_since setup before street later seat parts.1 less

pub least_raise : (setup : Setup) (moves : List Move) (street later : ℕ) → has_no_move_later moves street ≡ true → street < later → prices.full_raise setup moves later ≡ setup.min_bet
least_raise setup [] street later early less = refl
least_raise setup (move ∷ before) street later early less =
    let parts = newest_other move before street later early less in
    ap (λ b. if b && is_raising move.act && nat_le (prices.full_raise setup before later) (rise setup move before) then max (rise setup move before) (prices.full_raise setup before later) else prices.full_raise setup before later) parts.0
    ∙ least_raise setup before street later parts.1 less

pub none_doubled : (setup : Setup) (moves : List Move) (street later : ℕ) → has_no_move_later moves street ≡ true → street < later → doubled_raises setup moves later ≡ []
none_doubled setup [] street later early less = refl
none_doubled setup (move ∷ before) street later early less =
    let parts = newest_other move before street later early less in
    ap (λ b. if b && is_raising move.act then ((2 * move.to - current_bet setup before later) ∷ doubled_raises setup before later) else doubled_raises setup before later) parts.0
    ∙ none_doubled setup before street later parts.1 less

pub bet_at_start : (setup : Setup) (moves : List Move) (street later : ℕ) → has_no_move_later moves street ≡ true → street < later → prices.full_bet setup moves later ≡ prices.full_bet setup [] later
bet_at_start setup [] street later early less = refl
bet_at_start setup (move ∷ before) street later early less =
    let parts = newest_other move before street later early less in
    ap (λ b. if b && (is_raising move.act || is_bringing_in move.act) && nat_le (prices.full_bet setup before later + streets.unit setup later) move.to then move.to else prices.full_bet setup before later) parts.0
    ∙ bet_at_start setup before street later parts.1 less

-- a street after the first begins without chips
nothing_brought : (setup : Setup) (later seat : ℕ) → 1 < later → brought setup later seat ≡ 0
nothing_brought setup later seat less = ap (λ b. if b then blind_posted setup seat else 0) (ne_eqb later 1 (λ same. omega (arith, same, less)))

-- the greatest of zeros is zero
pub zero_greatest : (f : ℕ → ℕ) (first n : ℕ) → ((k : ℕ) → f k ≡ 0) → greatest (map f (range_with_len first n)) ≡ 0
zero_greatest f first zero none = refl
zero_greatest f first (suc n) none = omega (arith, none first, zero_greatest f (first + 1) n none)

pub starts_at_zero : (setup : Setup) (later : ℕ) → 1 < later → starting_bet setup later ≡ 0
starts_at_zero setup later less = zero_greatest (street_chips setup [] later) 1 setup.stacks.seats (λ k. omega (arith, nothing_brought setup later k less))

no_bet_by : (full : Bool) (start : ℕ) → start ≡ 0 → (if full then start else 0) ≡ 0
no_bet_by true start is = is
no_bet_by false start is = refl

module _ (b next : BettingState) (moves : List Move) (st : Standing b.setup b.street b moves) (early : has_no_move_later moves b.street ≡ true) (from_one : 1 ≤ b.street) (new : IsNextStreet b next) where
  later : ℕ
  later = b.street + 1

  empty : moves_on (b.street + 1) moves ≡ []
  empty = none_on moves b.street (b.street + 1) early (omega arith)

  bets_next : (seat : ℕ) → IsSeatOf b.setup.stacks.seats seat → amount_of next.bets seat ≡ street_chips b.setup moves (b.street + 1) seat
  bets_next seat in_hand = omega (arith, new.bets seat, nothing_brought b.setup (b.street + 1) seat (omega (arith, from_one)), ap (chips_added seat) empty)

  standing_there : Standing b.setup (b.street + 1) next moves
  standing_there = record {
    puts = λ seat in_hand. new.puts seat ∙ st.puts seat in_hand;
    bets = bets_next;
    live = λ seat in_hand. new.live seat ∙ st.live seat in_hand;
    moved = λ seat in_hand. new.moved seat ∙ sym (ap (list_any (λ (move : Move). move.seat == seat)) empty);
    acted_since_raise = λ seat in_hand. new.acted_since_raise seat ∙ sym (none_since b.setup moves b.street (b.street + 1) seat early (omega arith));
    last = new.last ∙ sym (ap newest_seat empty);
    raises = new.raises ∙ sym (ap (λ (ms : List Move). min (count_by (λ move. is_raising move.act) ms) most_raises) empty);
    full_raise = new.full_raise ∙ sym (least_raise b.setup moves b.street (b.street + 1) early (omega arith));
    full_bet = new.full_bet ∙ sym (bet_at_start b.setup moves b.street (b.street + 1) early (omega arith) ∙ no_bet_by (nat_le (streets.unit b.setup (b.street + 1)) (starting_bet b.setup (b.street + 1))) (starting_bet b.setup (b.street + 1)) (starts_at_zero b.setup (b.street + 1) (omega (arith, from_one))));
    always_floor = new.always_floor ∙ sym (ap greatest (none_doubled b.setup moves b.street (b.street + 1) early (omega arith)));
    bet_or_bring_in_made = new.bet_or_bring_in_made ∙ sym (ap (list_any (λ (move : Move). has_opened_betting move.act)) empty);
  }

  pub standing_next : Standing next.setup next.street next moves
  standing_next =
      subst (λ s. Standing s next.street next moves) (sym new.setup)
      (subst (λ n. Standing b.setup n next moves) (sym new.street) standing_there)
