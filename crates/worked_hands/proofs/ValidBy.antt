-- A setup that passes a test of each condition is valid.
use Rattle.std.proofs.Common.{◌≡◌, ℕ, zero, suc, ◌-◌, ◌<◌, ◌≤◌, ◌==◌, Bool, true, false, ◌&&◌, ◌||◌, not, nat_le, List, [], ◌∷◌, slice_index, arith}
use Rattle.std.specs.List.{list_all}
use Rattle.std.proofs.lemmas.Bool.{and_parts, leb-true, eqb-true, eq-eqb}
use Rattle.card_set.proofs.Tests.{false_true, implied}
use Rattle.chip_ledger.specs.declared.seat_row.TheConstants.{MOST_AMOUNT}
use Rattle.chip_ledger.specs.SeatRow.{amount_of}
use Rattle.play_event.specs.declared.setup.Setup.{Setup}
use Rattle.play_event.specs.Games.{game_of}
use Rattle.play_event.specs.Streets.{limit_of, is_stud_game}
use Rattle.chip_ledger.specs.declared.numbers.TheConstants.{MOST_CHIPS}
use Rattle.play_event.specs.ValidSetup.{IsValid, IsSize, IsSizeWhere, is_fixed_limit, has_antes}
use Rattle.chip_ledger.specs.Sizes.{is_size}
use Rattle.play_event.proofs.Sizes.{size_is}

-- a bet size that is used, or 0
abbrev is_size_where : Bool → ℕ → Bool
is_size_where true chips = is_size chips
is_size_where false chips = chips == 0

size_where : (used : Bool) (chips : ℕ) → is_size_where used chips ≡ true → IsSizeWhere used chips
size_where true chips passes = size_is chips passes
size_where false chips passes = eqb-true chips 0 passes

-- the first amounts, this many, are sizes
abbrev are_sizes : ℕ → List ℕ → Bool
are_sizes zero amounts = true
are_sizes (suc n) [] = false
are_sizes (suc n) (amount ∷ rest) = is_size amount && are_sizes n rest

sizes_by : (n : ℕ) (amounts : List ℕ) (k : ℕ) → are_sizes n amounts ≡ true → k < n → IsSize (slice_index amounts k)
sizes_by zero amounts k passes inside = absurd (omega (arith, inside))
sizes_by (suc n) [] k passes inside = false_true passes
sizes_by (suc n) (amount ∷ rest) zero passes inside = size_is amount (and_parts (is_size amount) (are_sizes n rest) passes).0
sizes_by (suc n) (amount ∷ rest) (suc k) passes inside = sizes_by n rest k (and_parts (is_size amount) (are_sizes n rest) passes).1 (omega (arith, inside))

-- each amount is at most that of the other row
abbrev are_below : List ℕ → List ℕ → Bool
are_below [] others = true
are_below (amount ∷ rest) [] = false
are_below (amount ∷ rest) (other ∷ others) = nat_le amount other && are_below rest others

below_by : (amounts others : List ℕ) (k : ℕ) → are_below amounts others ≡ true → slice_index amounts k ≤ slice_index others k
below_by [] others k passes = omega arith
below_by (amount ∷ rest) [] k passes = false_true passes
below_by (amount ∷ rest) (other ∷ others) zero passes = leb-true amount other (and_parts (nat_le amount other) (are_below rest others) passes).0
below_by (amount ∷ rest) (other ∷ others) (suc k) passes = below_by rest others k (and_parts (nat_le amount other) (are_below rest others) passes).1

-- each amount is at most this
abbrev are_most : ℕ → List ℕ → Bool
are_most most amounts = list_all (λ amount. nat_le amount most) amounts

most_by : (most : ℕ) (amounts : List ℕ) (k : ℕ) → are_most most amounts ≡ true → slice_index amounts k ≤ most
most_by most [] k passes = omega arith
most_by most (amount ∷ rest) zero passes = leb-true amount most (and_parts (nat_le amount most) (are_most most rest) passes).0
most_by most (amount ∷ rest) (suc k) passes = most_by most rest k (and_parts (nat_le amount most) (are_most most rest) passes).1

-- the seats, the amounts, the bet sizes, and what depends on the game
abbrev pass_seats : Setup → Bool
pass_seats setup =
    (setup.antes.seats == setup.stacks.seats) && ((setup.blinds.seats == setup.stacks.seats) && nat_le setup.stacks.seats (game_of setup.code).seats)

abbrev pass_amounts : Setup → Bool
pass_amounts setup =
    are_sizes setup.stacks.seats setup.stacks.amounts && (are_below setup.antes.amounts setup.stacks.amounts && (are_most MOST_CHIPS setup.blinds.amounts && are_most MOST_AMOUNT setup.rakes.rakes))

abbrev pass_bets : Setup → Bool
pass_bets setup =
    is_size_where (is_stud_game setup.code) setup.bring_in
    && (is_size_where (is_fixed_limit (limit_of setup.code)) setup.small_bet
    && (is_size_where (is_fixed_limit (limit_of setup.code)) setup.big_bet
    && is_size_where (not (is_fixed_limit (limit_of setup.code))) setup.min_bet))

abbrev pass_rest : Setup → Bool
pass_rest setup =
    (not setup.dead_antes || has_antes setup)
    && ((not (setup.stacks.seats == 2) || nat_le (amount_of setup.blinds 2) (amount_of setup.blinds 1))
    && (not (is_stud_game setup.code) || are_most 0 setup.blinds.amounts))

pub valid_by : (setup : Setup) → pass_seats setup ≡ true → pass_amounts setup ≡ true → pass_bets setup ≡ true → pass_rest setup ≡ true → IsValid setup
valid_by setup seats amounts bets rest =
    let fixed = is_fixed_limit (limit_of setup.code) in
    let seats_1 = and_parts (setup.antes.seats == setup.stacks.seats) ((setup.blinds.seats == setup.stacks.seats) && nat_le setup.stacks.seats (game_of setup.code).seats) seats in
    let seats_2 = and_parts (setup.blinds.seats == setup.stacks.seats) (nat_le setup.stacks.seats (game_of setup.code).seats) seats_1.1 in
    let amounts_1 = and_parts (are_sizes setup.stacks.seats setup.stacks.amounts) (are_below setup.antes.amounts setup.stacks.amounts && (are_most MOST_CHIPS setup.blinds.amounts && are_most MOST_AMOUNT setup.rakes.rakes)) amounts in
    let amounts_2 = and_parts (are_below setup.antes.amounts setup.stacks.amounts) (are_most MOST_CHIPS setup.blinds.amounts && are_most MOST_AMOUNT setup.rakes.rakes) amounts_1.1 in
    let amounts_3 = and_parts (are_most MOST_CHIPS setup.blinds.amounts) (are_most MOST_AMOUNT setup.rakes.rakes) amounts_2.1 in
    let bets_1 = and_parts (is_size_where (is_stud_game setup.code) setup.bring_in) (is_size_where fixed setup.small_bet && (is_size_where fixed setup.big_bet && is_size_where (not fixed) setup.min_bet)) bets in
    let bets_2 = and_parts (is_size_where fixed setup.small_bet) (is_size_where fixed setup.big_bet && is_size_where (not fixed) setup.min_bet) bets_1.1 in
    let bets_3 = and_parts (is_size_where fixed setup.big_bet) (is_size_where (not fixed) setup.min_bet) bets_2.1 in
    let dead = not setup.dead_antes || has_antes setup in
    let two = not (setup.stacks.seats == 2) || nat_le (amount_of setup.blinds 2) (amount_of setup.blinds 1) in
    let no_blinds = not (is_stud_game setup.code) || are_most 0 setup.blinds.amounts in
    let rest_1 = and_parts dead (two && no_blinds) rest in
    let rest_2 = and_parts two no_blinds rest_1.1 in
    record {
      same_antes = eqb-true setup.antes.seats setup.stacks.seats seats_1.0;
      same_blinds = eqb-true setup.blinds.seats setup.stacks.seats seats_2.0;
      few_seats = leb-true setup.stacks.seats (game_of setup.code).seats seats_2.1;
      stacks = λ seat first last. sizes_by setup.stacks.seats setup.stacks.amounts (seat - 1) amounts_1.0 (omega (arith, first, last));
      antes = λ seat. below_by setup.antes.amounts setup.stacks.amounts (seat - 1) amounts_2.0;
      blinds = λ seat. most_by MOST_CHIPS setup.blinds.amounts (seat - 1) amounts_3.0;
      bring_in = size_where (is_stud_game setup.code) setup.bring_in bets_1.0;
      small_bet = size_where fixed setup.small_bet bets_2.0;
      big_bet = size_where fixed setup.big_bet bets_3.0;
      least_bet = size_where (not fixed) setup.min_bet bets_3.1;
      dead_antes = implied setup.dead_antes (has_antes setup) rest_1.0;
      heads_up = λ is. leb-true (amount_of setup.blinds 2) (amount_of setup.blinds 1) (implied (setup.stacks.seats == 2) (nat_le (amount_of setup.blinds 2) (amount_of setup.blinds 1)) rest_2.0 (eq-eqb setup.stacks.seats 2 is));
      stud = λ is seat. let none = most_by 0 setup.blinds.amounts (seat - 1) (implied (is_stud_game setup.code) (are_most 0 setup.blinds.amounts) rest_2.1 is) in omega (arith, none);
      rakes = λ pot. most_by MOST_AMOUNT setup.rakes.rakes (pot - 1) amounts_3.1;
    }
