-- A setup that is determined by posts can be written: its game, bet sizes, antes and blinds.
use Rattle.std.proofs.Common.{◌≡◌, ℕ, zero, suc, ◌+◌, ◌-◌, ◌*◌, ◌<◌, ◌≤◌, Bool, true, false, not, ◌&&◌, ◌||◌, ◌==◌, nat_le, nat_lt, min, if◌then◌else◌, List, length, map, slice_index, Option, Some, None, is_some, refl, sym, ap, ◌∙◌, arith, true≢false}
use Rattle.std.specs.List.{list_all, list_any, range_with_len}
use Rattle.std.specs.Option.{option_map_or}
use Rattle.std.proofs.lemmas.Bool.{and_from, eq-eqb, le-leb, leb-false, lt-ltb, ltb-false, ne_eqb}
use Rattle.card_set.proofs.NumbersOfRange.{at_range, map_agree, all_at, all_of, some_other, mapped_at}
use Rattle.chip_ledger.specs.Greatest.{greatest}
use Rattle.chip_ledger.specs.Seat.{seats_of}
use Rattle.chip_ledger.specs.SeatRow.{amount_of, amounts_in}
use Rattle.chip_ledger.specs.declared.seat_row.SeatRow.{SeatRow}
use Rattle.play_event.specs.Seats.{all_seats}
use Rattle.play_event.specs.Streets.{limit_of}
use Rattle.play_event.specs.ValidSetup.{is_fixed_limit}
use Rattle.play_event.specs.declared.setup.Setup.{Setup}
use Rattle.ohh_writing.specs.Spelled.{big_blind, greatest_ante, has_no_ante, has_spelled_antes, has_spelled_blinds, has_spelled_sizes, has_spelled_straddles, has_two_blinds, is_covered_straddle, is_whole_ante}
use Rattle.ohh_rounds.proofs.Stacks.{seats_in}
use Rattle.ohh_rounds.specs.PostRules as conditions_of
use Rattle.ohh_rounds.specs.PostRules.{has_all_antes}
use Rattle.ohh_rounds.specs.Posts.{PlainPost, ante_of, first_ante, first_straddle}
use Rattle.ohh_rounds.specs.AntesAndBlinds.{PlainAntesAndBlinds, antes_and_blinds_said, are_dead, held_ante, named_blind}
use Rattle.ohh_rounds.specs.NamedBlinds.{PlainNamedBlinds, seat_count, stack_of}
use Rattle.hand_canon.specs.declared.sizes.Sizes.{Sizes}
use Rattle.ohh_format.proofs.ToldHands.{IsToldSetup}
use Rattle.ohh_format.proofs.ToldPosts.{ante_even, ante_within, straddle_few}
use Rattle.card_set.proofs.Entries.{at_taken}
use Rattle.hand_canon.specs.PlainHands.{plain_setup}

-- ---- ranges

-- the amounts of a row, seat by seat
row_at : (row : SeatRow) (f : ℕ → ℕ) (count : ℕ) → amounts_in row ≡ map f (seats_of count) → (seat : ℕ) → 1 ≤ seat → seat ≤ count → amount_of row seat ≡ f seat
row_at row f count same seat low high =
    let within : seat - 1 < count = omega (arith, low, high) in
    let number : 1 + (seat - 1) ≡ seat = omega (arith, low) in
    sym (at_taken row.amounts row.seats (seat - 1) row.filler)
    ∙ ap (λ (l : List ℕ). slice_index l (seat - 1)) same
    ∙ mapped_at f 0 1 count (seat - 1) within
    ∙ ap f number

greatest_none : (f : ℕ → ℕ) (first count : ℕ) → ((number : ℕ) → first ≤ number → number < first + count → f number ≡ 0) → greatest (map f (range_with_len first count)) ≡ 0
greatest_none f first zero each = refl
greatest_none f first (suc count) each =
    omega (arith, each first (omega arith) (omega arith), greatest_none f (first + 1) count (λ number low high. each number (omega (arith, low)) (omega (arith, high))))

-- the bet sizes by whether the limit is fixed
abbrev sizes_by : ℕ → Bool → Sizes
sizes_by big fixed =
    if fixed then record { bring_in = 0; small_bet = big; big_bet = 2 * big; min_bet = 0 }
    else record { bring_in = 0; small_bet = 0; big_bet = 0; min_bet = big }

-- ---- the setup

module _ (setup : Setup) (is : IsToldSetup (plain_setup setup)) where
  abbrev count : ℕ
  count = setup.stacks.seats

  abbrev table : PlainNamedBlinds
  table = is.table

  abbrev posts : List PlainPost
  posts = is.stakes.posts

  count_is : seat_count table ≡ count
  count_is = ap (λ (l : List ℕ). length l) (sym is.stacks) ∙ seats_in setup.stacks.amounts count setup.stacks.full setup.stacks.greatest

  stack_is : (seat : ℕ) → stack_of table seat ≡ amount_of setup.stacks seat
  stack_is seat = ap (λ (l : List ℕ). slice_index l (seat - 1)) (sym is.stacks) ∙ at_taken setup.stacks.amounts count (seat - 1) setup.stacks.filler

  held_is : (seat : ℕ) → 1 ≤ seat → seat ≤ count → amount_of setup.antes seat ≡ held_ante table posts seat
  unfolding antes_and_blinds_said
  held_is =
      row_at setup.antes (held_ante table posts) count
      (ap (λ (stakes : PlainAntesAndBlinds). stakes.antes) is.stakes.are ∙ ap (λ n. map (held_ante table posts) (seats_of n)) count_is)

  blind_is : (seat : ℕ) → 1 ≤ seat → seat ≤ count → amount_of setup.blinds seat ≡ named_blind table posts seat
  unfolding antes_and_blinds_said
  blind_is =
      row_at setup.blinds (named_blind table posts) count
      (ap (λ (stakes : PlainAntesAndBlinds). stakes.blinds) is.stakes.are ∙ ap (λ n. map (named_blind table posts) (seats_of n)) count_is)

  dead_is : setup.dead_antes ≡ are_dead table posts
  unfolding antes_and_blinds_said
  dead_is = ap (λ (stakes : PlainAntesAndBlinds). stakes.dead_antes) is.stakes.are

  ante_is : (seat : ℕ) → 1 ≤ seat → seat ≤ count → amount_of setup.antes seat ≡ ante_of posts seat
  ante_is seat low high = omega (arith, held_is seat low high, ante_within table posts is.stakes.checked seat)

  -- ---- blinds

  two_named : (two : Bool) → (seat_count table == 2) ≡ two → (named_blind table posts 1 ≡ (if two then table.big_blind else table.small_blind)) × (named_blind table posts 2 ≡ (if two then table.small_blind else table.big_blind))
  two_named true e = (rw e refl, rw e refl)
  two_named false e = (rw e refl, rw e refl)

  count_two : (seat_count table == 2) ≡ (count == 2)
  count_two = ap (λ n. n == 2) count_is

  two_are : (two : Bool) → (count == 2) ≡ two → (amount_of setup.blinds 1 ≡ (if two then table.big_blind else table.small_blind)) × (amount_of setup.blinds 2 ≡ (if two then table.small_blind else table.big_blind))
  two_are two e =
      let named = two_named two (count_two ∙ e) in
      (blind_is 1 (omega arith) (omega (arith, setup.stacks.least)) ∙ named.0, blind_is 2 (omega arith) (omega (arith, setup.stacks.least)) ∙ named.1)

  big_is : (two : Bool) → (count == 2) ≡ two → amount_of setup.blinds (if two then 1 else 2) ≡ table.big_blind
  big_is true e = (two_are true e).0
  big_is false e = (two_are false e).1

  big_named : big_blind setup ≡ table.big_blind
  big_named = big_is (count == 2) refl

  both_some : (two : Bool) → (count == 2) ≡ two → has_two_blinds setup ≡ true
  both_some true e =
      let are = two_are true e in
      and_from (nat_lt 0 (amount_of setup.blinds 1)) (nat_lt 0 (amount_of setup.blinds 2)) (lt-ltb 0 (amount_of setup.blinds 1) (omega (arith, are.0, is.small, is.order))) (lt-ltb 0 (amount_of setup.blinds 2) (omega (arith, are.1, is.small)))
  both_some false e =
      let are = two_are false e in
      and_from (nat_lt 0 (amount_of setup.blinds 1)) (nat_lt 0 (amount_of setup.blinds 2)) (lt-ltb 0 (amount_of setup.blinds 1) (omega (arith, are.0, is.small))) (lt-ltb 0 (amount_of setup.blinds 2) (omega (arith, are.1, is.small, is.order)))

  later_blind : (seat : ℕ) → 3 ≤ seat → named_blind table posts seat ≡ option_map_or (λ straddle. straddle) (first_straddle seat posts) 0
  later_blind seat low = by_two (seat_count table == 2) refl
    where
      by_two : (two : Bool) → (seat_count table == 2) ≡ two
          → (if seat == (if two then 2 else 1) then table.small_blind else if seat == (if two then 1 else 2) then table.big_blind else option_map_or (λ straddle. straddle) (first_straddle seat posts) 0)
          ≡ option_map_or (λ straddle. straddle) (first_straddle seat posts) 0
      by_two true e = rw (ne_eqb seat 2 (λ same. omega (arith, same, low)), ne_eqb seat 1 (λ same. omega (arith, same, low))) refl
      by_two false e = rw (ne_eqb seat 1 (λ same. omega (arith, same, low)), ne_eqb seat 2 (λ same. omega (arith, same, low))) refl

  straddle_within : (seat : ℕ) → option_map_or (λ straddle. straddle) (first_straddle seat posts) 0 ≤ conditions_of.left_of table posts seat
  straddle_within seat = by_first (first_straddle seat posts) refl
    where
      by_first : (found : Option ℕ) → first_straddle seat posts ≡ found → option_map_or (λ straddle. straddle) found 0 ≤ conditions_of.left_of table posts seat
      by_first None e = omega arith
      by_first (Some straddle) e = straddle_few table posts is.stakes.checked seat straddle e

  covered : (seat : ℕ) → 1 ≤ seat → seat < 1 + count → is_covered_straddle setup seat ≡ true
  covered seat low high = by_seat (nat_le seat 2) refl
    where
      by_seat : (early : Bool) → nat_le seat 2 ≡ early → (early || nat_le (amount_of setup.blinds seat) (amount_of setup.stacks seat - amount_of setup.antes seat)) ≡ true
      by_seat true e = refl
      by_seat false e =
          let after : 3 ≤ seat = omega (arith, leb-false seat 2 e) in
          le-leb (amount_of setup.blinds seat) (amount_of setup.stacks seat - amount_of setup.antes seat)
          (omega (arith, blind_is seat low (omega (arith, high)), later_blind seat after, straddle_within seat, stack_is seat, ante_is seat low (omega (arith, high))))

  blinds_told : (two : Bool) → (count == 2) ≡ two → (two || has_spelled_straddles setup) ≡ true
  blinds_told true e = refl
  blinds_told false e =
      let are = two_are false e in
      and_from (nat_le (amount_of setup.blinds 1) (amount_of setup.blinds 2)) (list_all (is_covered_straddle setup) (all_seats setup))
      (le-leb (amount_of setup.blinds 1) (amount_of setup.blinds 2) (omega (arith, are.0, are.1, is.order))) (all_of (is_covered_straddle setup) 1 count covered)

  pub blinds_spelled : has_spelled_blinds setup ≡ true
  blinds_spelled = and_from (has_two_blinds setup) (count == 2 || has_spelled_straddles setup) (both_some (count == 2) refl) (blinds_told (count == 2) refl)

  -- ---- sizes

  pub sizes_spelled : has_spelled_sizes setup ≡ true
  sizes_spelled = by_fixed (is_fixed_limit (limit_of setup.code)) refl
    where
      by_fixed : (fixed : Bool) → is_fixed_limit (limit_of setup.code) ≡ fixed → (if fixed then (setup.small_bet == big_blind setup) && (setup.big_bet == 2 * big_blind setup) else setup.min_bet == big_blind setup) ≡ true
      by_fixed true e =
          let here = is.sizes ∙ ap (sizes_by table.big_blind) e in
          let small : setup.small_bet ≡ table.big_blind = ap (λ (sizes : Sizes). sizes.small_bet) here in
          let big : setup.big_bet ≡ 2 * table.big_blind = ap (λ (sizes : Sizes). sizes.big_bet) here in
          and_from (setup.small_bet == big_blind setup) (setup.big_bet == 2 * big_blind setup) (eq-eqb setup.small_bet (big_blind setup) (small ∙ sym big_named)) (eq-eqb setup.big_bet (2 * big_blind setup) (big ∙ ap (λ n. 2 * n) (sym big_named)))
      by_fixed false e =
          let here = is.sizes ∙ ap (sizes_by table.big_blind) e in
          let least : setup.min_bet ≡ table.big_blind = ap (λ (sizes : Sizes). sizes.min_bet) here in
          eq-eqb setup.min_bet (big_blind setup) (least ∙ sym big_named)

  -- ---- antes

  -- who posts no ante has none
  without : (seat : ℕ) → is_some (first_ante seat posts) ≡ false → ante_of posts seat ≡ 0
  without seat = by_first (first_ante seat posts)
    where
      by_first : (found : Option ℕ) → is_some found ≡ false → option_map_or (λ ante. ante) found 0 ≡ 0
      by_first None none = refl
      by_first (Some ante) none = absurd (true≢false none)

  some_none : has_all_antes table posts ≡ false → list_any (has_no_ante setup) (all_seats setup) ≡ true
  some_none fails =
      some_other (λ seat. is_some (first_ante seat posts)) (has_no_ante setup) 1 count
      (λ seat low high none. eq-eqb (amount_of setup.antes seat) 0 (ante_is seat low (omega (arith, high)) ∙ without seat none))
      (sym (ap (λ n. list_all (λ seat. is_some (first_ante seat posts)) (seats_of n)) count_is) ∙ fails)

  -- antes of all are even
  even_ante : has_all_antes table posts ≡ true → (seat : ℕ) → 1 ≤ seat → seat < 1 + count → ante_of posts seat ≡ min (conditions_of.greatest_ante table posts) (stack_of table seat)
  even_ante all seat low high =
      by_first (first_ante seat posts) refl
      (all_at (λ n. is_some (first_ante n posts)) 1 count seat (sym (ap (λ n. list_all (λ seat. is_some (first_ante seat posts)) (seats_of n)) count_is) ∙ all) low high)
    where
      by_first : (found : Option ℕ) → first_ante seat posts ≡ found → is_some found ≡ true → option_map_or (λ ante. ante) found 0 ≡ min (conditions_of.greatest_ante table posts) (stack_of table seat)
      by_first None e some = absurd (true≢false (sym some))
      by_first (Some ante) e some = ante_even table posts is.stakes.checked all seat ante e

  greatest_is : greatest_ante setup ≡ conditions_of.greatest_ante table posts
  greatest_is =
      ap greatest (map_agree (amount_of setup.antes) (ante_of posts) 1 count (λ seat low high. ante_is seat low (omega (arith, high))))
      ∙ ap (λ n. greatest (map (ante_of posts) (seats_of n))) (sym count_is)

  whole_even : has_all_antes table posts ≡ true → (seat : ℕ) → 1 ≤ seat → seat < 1 + count → is_whole_ante setup seat ≡ true
  whole_even all seat low high =
      eq-eqb (amount_of setup.antes seat) (min (amount_of setup.stacks seat) (greatest_ante setup))
      (omega (arith, ante_is seat low (omega (arith, high)), even_ante all seat low high, greatest_is, stack_is seat))

  -- or no seat posts an ante
  none_ante : list_any (λ seat. nat_lt 0 (held_ante table posts seat)) (seats_of (seat_count table)) ≡ false → (seat : ℕ) → 1 ≤ seat → seat < 1 + count → amount_of setup.antes seat ≡ 0
  none_ante none seat low high =
      let here = at_range (λ n. nat_lt 0 (held_ante table posts n)) 1 count seat (sym (ap (λ n. list_any (λ seat. nat_lt 0 (held_ante table posts seat)) (seats_of n)) count_is) ∙ none) low high in
      omega (arith, held_is seat low (omega (arith, high)), ltb-false 0 (held_ante table posts seat) here)

  whole_none : list_any (λ seat. nat_lt 0 (held_ante table posts seat)) (seats_of (seat_count table)) ≡ false → (seat : ℕ) → 1 ≤ seat → seat < 1 + count → is_whole_ante setup seat ≡ true
  whole_none none seat low high =
      let most : greatest_ante setup ≡ 0 = greatest_none (amount_of setup.antes) 1 count (none_ante none) in
      eq-eqb (amount_of setup.antes seat) (min (amount_of setup.stacks seat) (greatest_ante setup)) (omega (arith, none_ante none seat low high, most))

  live_whole : (some all : Bool) → list_any (λ seat. nat_lt 0 (held_ante table posts seat)) (seats_of (seat_count table)) ≡ some → has_all_antes table posts ≡ all → (some && not all) ≡ false
      → (seat : ℕ) → 1 ≤ seat → seat < 1 + count → is_whole_ante setup seat ≡ true
  live_whole some true e all live = whole_even all
  live_whole true false e all live = absurd (true≢false live)
  live_whole false false e all live = whole_none e

  dead_parts : (some all : Bool) → (some && not all) ≡ true → all ≡ false
  dead_parts true true dead = absurd (true≢false (sym dead))
  dead_parts true false dead = refl
  dead_parts false all dead = absurd (true≢false (sym dead))

  pub antes_spelled : has_spelled_antes setup ≡ true
  antes_spelled = by_dead setup.dead_antes refl
    where
      by_dead : (dead : Bool) → setup.dead_antes ≡ dead → (if dead then list_any (has_no_ante setup) (all_seats setup) else list_all (is_whole_ante setup) (all_seats setup)) ≡ true
      by_dead true e = some_none (dead_parts (list_any (λ seat. nat_lt 0 (held_ante table posts seat)) (seats_of (seat_count table))) (has_all_antes table posts) (sym dead_is ∙ e))
      by_dead false e =
          all_of (is_whole_ante setup) 1 count
          (live_whole (list_any (λ seat. nat_lt 0 (held_ante table posts seat)) (seats_of (seat_count table))) (has_all_antes table posts) refl refl (sym dead_is ∙ e))
