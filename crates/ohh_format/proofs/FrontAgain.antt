-- The game, the players and the blinds of a hand that was written read as those of its setup.
use Rattle.std.proofs.Common.{◌≡◌, ℕ, zero, suc, ◌+◌, ◌-◌, ◌*◌, ◌≤◌, ◌==◌, Bool, true, false, not, ◌&&◌, ◌||◌, nat_le, nat_lt, min, if◌then◌else◌, List, ◌∷◌, map, Option, Some, pos, ℤ, Ok, refl, sym, ap, subst, ◌∙◌, arith, inl, inr, true≢false}
use Rattle.std.specs.List.{list_all, list_any, range_with_len}
use Rattle.std.proofs.lemmas.Bool.{and_parts, cases_lt, eqb-true, le-leb, le-ltb, leb-true, lt-leb, ltb-true, ne_eqb}
use Rattle.serde_json.specs.Data.{Data}
use Rattle.chip_ledger.specs.Greatest.{greatest}
use Rattle.chip_ledger.specs.SeatRow.{amount_of, amounts_in}
use Rattle.chip_ledger.specs.declared.numbers.TheConstants.{MOST_CHIPS}
use Rattle.chip_ledger.specs.declared.seat_row.SeatRow.{SeatRow}
use Rattle.hand_canon.specs.declared.notes.Notes.{Notes}
use Rattle.play_event.specs.declared.code.Code.{Code}
use Rattle.play_event.specs.declared.code.Code.TheVariants as games
use Rattle.play_event.specs.Seats.{all_seats}
use Rattle.play_event.specs.Streets.{is_stud_game, limit_of}
use Rattle.play_event.specs.ValidSetup.{IsSize, IsSizeWhere, IsValid, is_fixed_limit}
use Rattle.play_event.specs.declared.setup.Setup.{Setup}
use Rattle.ohh_members.specs.declared.blinds.Blinds.{Blinds}
use Rattle.ohh_members.specs.declared.fault.Path.TheVariants as paths
use Rattle.ohh_members.specs.Blinds.{blinds_said, fitting}
use Rattle.ohh_members.specs.Header.{ids_of, stacks_of}
use Rattle.ohh_members.specs.Values.{member_at, number_said, required_value}
use Rattle.ohh_writing.specs.Actions.{seat_of_big_blind, seat_of_small_blind}
use Rattle.ohh_writing.specs.Games.{is_spelled_game}
use Rattle.ohh_writing.specs.Spelled.{big_blind, greatest_ante, has_no_ante, has_spelled_antes, has_spelled_blinds, has_spelled_sizes, has_spelled_straddles, has_two_blinds, is_covered_straddle, is_whole_ante}
use Rattle.ohh_writing.specs.Tree.{whole}
use Rattle.ohh_rounds.specs.NamedBlinds.{PlainNamedBlinds}
use Rattle.ohh_rounds.proofs.Stacks.{seats_in}
use Rattle.ohh_reading.specs.Sizes.{sizes_of}
use Rattle.ohh_format.proofs.PostsAgain.{IsTableOf}
use Rattle.ohh_format.proofs.SeatingAgain.{players_from}
use Rattle.ohh_format.proofs.WinsAgain.{ids_written}
use Rattle.card_set.proofs.Entries.{at_taken}
use Rattle.card_set.proofs.NumbersOfRange.{all_at}
use Rattle.chip_ledger.proofs.RowLists.{row_listed}

-- what holds of a setup that can be written
pub record IsSpelledSetup (setup : Setup) : Type 0 where
  pub game : is_spelled_game setup.code ≡ true
  pub sizes : has_spelled_sizes setup ≡ true
  pub antes : has_spelled_antes setup ≡ true
  pub blinds : has_spelled_blinds setup ≡ true

-- the blinds of a setup, as they are named
abbrev pub blinds_of : Setup → Blinds
blinds_of setup = record { small = amount_of setup.blinds (seat_of_small_blind setup); big = big_blind setup }

greatest_few : (f : ℕ → ℕ) (most first many : ℕ) → ((number : ℕ) → f number ≤ most) → greatest (map f (range_with_len first many)) ≤ most
greatest_few f most first zero each = omega arith
greatest_few f most first (suc many) each = omega (arith, each first, greatest_few f most (first + 1) many each)

pub no_stud : (code : Code) → is_spelled_game code ≡ true → is_stud_game code ≡ false
no_stud games.FT is = refl
no_stud games.NT is = refl
no_stud games.PO is = refl
no_stud games.FO8 is = refl
no_stud games.NS is = absurd (true≢false (sym is))
no_stud games.F7S is = absurd (true≢false (sym is))
no_stud games.F7S8 is = absurd (true≢false (sym is))
no_stud games.FR is = absurd (true≢false (sym is))
no_stud games.N2L1D is = absurd (true≢false (sym is))
no_stud games.F2L3D is = absurd (true≢false (sym is))
no_stud games.FB is = absurd (true≢false (sym is))

-- stacks of players that were written
pub stacks_are : (count : ℕ) (stacks : SeatRow) (notes : Notes) (numbers : Option (List ℕ)) → stacks.seats ≡ count → stacks_of (players_from count stacks notes numbers 1 count) ≡ amounts_in stacks
stacks_are count stacks notes numbers same = mapped 1 count ∙ sym (row_listed (amount_of stacks) stacks count same (λ seat low high. refl))
  where
    mapped : (first many : ℕ) → stacks_of (players_from count stacks notes numbers first many) ≡ map (amount_of stacks) (range_with_len first many)
    mapped first zero = refl
    mapped first (suc many) = ap (λ (l : List ℕ). amount_of stacks first ∷ l) (mapped (first + 1) many)

pub ids_are : (count : ℕ) (stacks : SeatRow) (notes : Notes) (numbers : Option (List ℕ)) → ids_of (players_from count stacks notes numbers 1 count) ≡ ids_written count
ids_are count stacks notes numbers = mapped 1 count
  where
    mapped : (first many : ℕ) → ids_of (players_from count stacks notes numbers first many) ≡ map pos (range_with_len first many)
    mapped first zero = refl
    mapped first (suc many) = ap (λ (l : List ℤ). pos first ∷ l) (mapped (first + 1) many)

module _ (setup : Setup) (valid : IsValid setup) (is : IsSpelledSetup setup) where
  abbrev count : ℕ
  count = setup.stacks.seats

  pub stack_few : (seat : ℕ) → amount_of setup.stacks seat ≤ MOST_CHIPS
  stack_few zero = (valid.stacks 1 (omega arith) (omega (arith, setup.stacks.least))).1
  stack_few (suc seat) = elim (cases_lt count (suc seat)) [
    | inl beyond ↦ let none = setup.stacks.filler (suc seat - 1) (omega (arith, beyond)) in omega (arith, none)
    | inr within ↦ (valid.stacks (suc seat) (omega arith) within).1
  ]

  parts : (has_two_blinds setup ≡ true) × ((count == 2 || has_spelled_straddles setup) ≡ true)
  parts = and_parts (has_two_blinds setup) (count == 2 || has_spelled_straddles setup) is.blinds

  two : (nat_lt 0 (amount_of setup.blinds 1) ≡ true) × (nat_lt 0 (amount_of setup.blinds 2) ≡ true)
  two = and_parts (nat_lt 0 (amount_of setup.blinds 1)) (nat_lt 0 (amount_of setup.blinds 2)) parts.0

  straddles : (count == 2) ≡ false → (nat_le (amount_of setup.blinds 1) (amount_of setup.blinds 2) ≡ true) × (list_all (is_covered_straddle setup) (all_seats setup) ≡ true)
  straddles more = and_parts (nat_le (amount_of setup.blinds 1) (amount_of setup.blinds 2)) (list_all (is_covered_straddle setup) (all_seats setup)) (second (count == 2) (has_spelled_straddles setup) parts.1 more)
    where
      second : (a b : Bool) → (a || b) ≡ true → a ≡ false → b ≡ true
      second true b either fails = absurd (true≢false fails)
      second false b either fails = either

  small_is : (both : Bool) → (count == 2) ≡ both → (1 ≤ amount_of setup.blinds (if both then 2 else 1)) × (amount_of setup.blinds (if both then 2 else 1) ≤ amount_of setup.blinds (if both then 1 else 2))
  small_is true e = (ltb-true 0 (amount_of setup.blinds 2) two.1, valid.heads_up (eqb-true count 2 e))
  small_is false e = (ltb-true 0 (amount_of setup.blinds 1) two.0, leb-true (amount_of setup.blinds 1) (amount_of setup.blinds 2) (straddles e).0)

  blinds_order : (1 ≤ (blinds_of setup).small) × ((blinds_of setup).small ≤ (blinds_of setup).big)
  blinds_order = small_is (count == 2) refl

  sizes_fixed : (fixed : Bool) → is_fixed_limit (limit_of setup.code) ≡ fixed → (if fixed then (setup.small_bet == big_blind setup) && (setup.big_bet == 2 * big_blind setup) else setup.min_bet == big_blind setup) ≡ true
  sizes_fixed fixed e = ap (λ (b : Bool). if b then (setup.small_bet == big_blind setup) && (setup.big_bet == 2 * big_blind setup) else setup.min_bet == big_blind setup) (sym e) ∙ is.sizes

  fixed_few : (fixed : Bool) → is_fixed_limit (limit_of setup.code) ≡ fixed → (fixed && nat_lt MOST_CHIPS (2 * big_blind setup)) ≡ false
  fixed_few false e = refl
  fixed_few true e =
      let tests = and_parts (setup.small_bet == big_blind setup) (setup.big_bet == 2 * big_blind setup) (sizes_fixed true e) in
      let big : setup.big_bet ≡ 2 * big_blind setup = eqb-true setup.big_bet (2 * big_blind setup) tests.1 in
      let few : IsSize setup.big_bet = subst (λ (b : Bool). IsSizeWhere b setup.big_bet) e valid.big_bet in
      le-ltb MOST_CHIPS (2 * big_blind setup) (omega (arith, big, few.1))

  fitting_again : fitting setup.code (blinds_of setup).small (blinds_of setup).big ≡ Ok (blinds_of setup)
  unfolding fitting
  fitting_again = rw (le-ltb (blinds_of setup).big (blinds_of setup).small blinds_order.1, fixed_few (is_fixed_limit (limit_of setup.code)) refl) refl

  -- the blinds
  pub blinds_again : (ohh : Data) → member_at paths.AnteAmount ohh ≡ Some (whole (greatest_ante setup)) → member_at paths.SmallBlindAmount ohh ≡ Some (whole (blinds_of setup).small) → member_at paths.BigBlindAmount ohh ≡ Some (whole (blinds_of setup).big)
      → blinds_said setup.code ohh ≡ Ok (blinds_of setup)
  unfolding blinds_said required_value number_said
  blinds_again ohh ante small big =
      let ante_few : greatest_ante setup ≤ MOST_CHIPS = greatest_few (amount_of setup.antes) MOST_CHIPS 1 count (λ seat. omega (arith, valid.antes seat, stack_few seat)) in
      rw (
        ante,
        le-leb 0 (greatest_ante setup) (omega arith),
        le-leb (greatest_ante setup) MOST_CHIPS ante_few,
        small,
        le-leb 1 (blinds_of setup).small blinds_order.0,
        le-leb (blinds_of setup).small MOST_CHIPS (valid.blinds (seat_of_small_blind setup)),
        big,
        le-leb 1 (blinds_of setup).big (omega (arith, blinds_order.0, blinds_order.1)),
        le-leb (blinds_of setup).big MOST_CHIPS (valid.blinds (seat_of_big_blind setup)),
      ) fitting_again

  -- the sizes of bets
  pub sizes_again : sizes_of setup.code (blinds_of setup).big ≡ record { bring_in = setup.bring_in; small_bet = setup.small_bet; big_bet = setup.big_bet; min_bet = setup.min_bet }
  sizes_again = by_fixed (is_fixed_limit (limit_of setup.code)) refl
    where
      no_bring_in : setup.bring_in ≡ 0
      no_bring_in = subst (λ (b : Bool). IsSizeWhere b setup.bring_in) (no_stud setup.code is.game) valid.bring_in

      by_fixed : (fixed : Bool) → is_fixed_limit (limit_of setup.code) ≡ fixed → sizes_of setup.code (blinds_of setup).big ≡ record { bring_in = setup.bring_in; small_bet = setup.small_bet; big_bet = setup.big_bet; min_bet = setup.min_bet }
      by_fixed true e =
          let tests = and_parts (setup.small_bet == big_blind setup) (setup.big_bet == 2 * big_blind setup) (sizes_fixed true e) in
          let none : setup.min_bet ≡ 0 = subst (λ (b : Bool). IsSizeWhere (not b) setup.min_bet) e valid.least_bet in
          rw (e, no_bring_in, eqb-true setup.small_bet (big_blind setup) tests.0, eqb-true setup.big_bet (2 * big_blind setup) tests.1, none) refl
      by_fixed false e =
          let small : setup.small_bet ≡ 0 = subst (λ (b : Bool). IsSizeWhere b setup.small_bet) e valid.small_bet in
          let big : setup.big_bet ≡ 0 = subst (λ (b : Bool). IsSizeWhere b setup.big_bet) e valid.big_bet in
          rw (e, no_bring_in, small, big, eqb-true setup.min_bet (big_blind setup) (sizes_fixed false e)) refl

  -- the table that the posts are checked against
  abbrev pub table_of : PlainNamedBlinds
  table_of = record { stacks = amounts_in setup.stacks; small_blind = (blinds_of setup).small; big_blind = (blinds_of setup).big }

  antes_by : (dead : Bool) → setup.dead_antes ≡ dead → (if dead then list_any (has_no_ante setup) (all_seats setup) else list_all (is_whole_ante setup) (all_seats setup)) ≡ true
  antes_by dead e = ap (λ (b : Bool). if b then list_any (has_no_ante setup) (all_seats setup) else list_all (is_whole_ante setup) (all_seats setup)) (sym e) ∙ is.antes

  pub table_is : IsTableOf setup table_of
  table_is =
      record {
        count = seats_in setup.stacks.amounts count setup.stacks.full setup.stacks.greatest;
        stacks = λ seat. at_taken setup.stacks.amounts count (seat - 1) setup.stacks.filler;
        small = refl;
        big = refl;
        same_antes = valid.same_antes;
        same_blinds = valid.same_blinds;
        some_stack = λ seat low high. (valid.stacks seat low high).0;
        antes = valid.antes;
        covered = covered;
        whole = λ alive seat low high. eqb-true (amount_of setup.antes seat) (min (amount_of setup.stacks seat) (greatest_ante setup)) (all_at (is_whole_ante setup) 1 count seat (antes_by false alive) low (omega (arith, high)));
        some_ante = valid.dead_antes;
        some_none = λ dead. antes_by true dead;
      }
    where
      covered : (seat : ℕ) → 3 ≤ seat → seat ≤ count → amount_of setup.blinds seat ≤ amount_of setup.stacks seat - amount_of setup.antes seat
      covered seat low high =
          let more : (count == 2) ≡ false = ne_eqb count 2 (λ same. omega (arith, same, low, high)) in
          let one = all_at (is_covered_straddle setup) 1 count seat (straddles more).1 (omega (arith, low)) (omega (arith, high)) in
          leb-true (amount_of setup.blinds seat) (amount_of setup.stacks seat - amount_of setup.antes seat) (later (nat_le seat 2) (nat_le (amount_of setup.blinds seat) (amount_of setup.stacks seat - amount_of setup.antes seat)) one (lt-leb seat 2 (omega (arith, low))))
        where
          later : (a b : Bool) → (a || b) ≡ true → a ≡ false → b ≡ true
          later true b either fails = absurd (true≢false fails)
          later false b either fails = either
