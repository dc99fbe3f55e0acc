-- The setup of a game is that of a hand.
use Rattle.std.proofs.Common.{◌≡◌, ℕ, zero, suc, ◌-◌, ◌<◌, ◌≤◌, Bool, true, false, not, ◌&&◌, ◌||◌, nat_lt, nat_le, eqb, if◌then◌else◌, List, [], ◌∷◌, length, take, get_or, refl, ap, ◌∙◌, arith, inl, inr}
use Rattle.std.proofs.lemmas.Bool.{and_parts, or_parts, cases_lt, leb-true}
use Rattle.std.proofs.lemmas.Bool.Decides.{nat_tests}
use Rattle.chip_ledger.specs.declared.numbers.TheConstants.{MOST_CHIPS}
use Rattle.chip_ledger.specs.declared.seat_row.SeatRow.{SeatRow}
use Rattle.chip_ledger.specs.Greatest.{greatest}
use Rattle.chip_ledger.specs.SeatRow.{amount_of, amounts_in}
use Rattle.play_event.specs.declared.setup.Setup.{Setup}
use Rattle.play_event.specs.Games.{game_of}
use Rattle.play_event.specs.Streets.{limit_of, is_stud_game}
use Rattle.play_event.specs.ValidSetup.{IsSizeWhere, IsValid, is_fixed_limit}
use Rattle.acpc_game.specs.declared.game.Game.{Game}
use Rattle.acpc_game.specs.GameFile.{has_short_stack, is_reversed}
use Rattle.acpc_game.specs.Games.{are_chips, has_fitting_sizes}
use Rattle.acpc_reading.specs.RecordView.{IsSetupOf, code_of}
use Rattle.chip_ledger.specs.Sizes.{is_size}
use Rattle.play_event.proofs.Sizes.{size_is}

-- an amount of the first ones
chips_within : (amounts : List ℕ) (count k : ℕ) → are_chips (take count amounts) ≡ true → k < count → get_or amounts k 0 ≤ MOST_CHIPS
chips_within amounts zero k all inside = absurd (omega (arith, inside))
chips_within [] (suc count) k all inside = omega arith
chips_within (chips ∷ amounts) (suc count) zero all inside = leb-true chips MOST_CHIPS (and_parts (nat_le chips MOST_CHIPS) (are_chips (take count amounts)) all).0
chips_within (chips ∷ amounts) (suc count) (suc k) all inside = chips_within amounts count k (and_parts (nat_le chips MOST_CHIPS) (are_chips (take count amounts)) all).1 (omega (arith, inside))

-- an amount of a row
chips_of : (row : SeatRow) → are_chips (amounts_in row) ≡ true → (seat : ℕ) → amount_of row seat ≤ MOST_CHIPS
chips_of row all seat =
    elim (cases_lt (seat - 1) row.seats) [
      | inl inside ↦ chips_within row.amounts row.seats (seat - 1) all inside
      | inr past ↦ omega (arith, row.filler (seat - 1) past)
    ]

-- the greatest of amounts
greatest_within : (amounts : List ℕ) → are_chips amounts ≡ true → greatest amounts ≤ MOST_CHIPS
greatest_within [] all = omega arith
greatest_within (chips ∷ amounts) all =
    let parts = and_parts (nat_le chips MOST_CHIPS) (are_chips amounts) all in
    omega (arith, leb-true chips MOST_CHIPS parts.0, greatest_within amounts parts.1)

-- no stack is 0
some_stack : (stacks blinds : List ℕ) (count k : ℕ) → count ≤ length stacks → count ≤ length blinds → has_short_stack (take count stacks) (take count blinds) ≡ false → k < count → 1 ≤ get_or stacks k 0
some_stack stacks blinds zero k few few_blinds none inside = absurd (omega (arith, inside))
some_stack [] blinds (suc count) k few few_blinds none inside = absurd (omega (arith, few))
some_stack (stack ∷ stacks) [] (suc count) k few few_blinds none inside = absurd (omega (arith, few_blinds))
some_stack (stack ∷ stacks) (blind ∷ blinds) (suc count) zero few few_blinds none inside =
    let whole = or_parts (eqb stack 0 || nat_lt stack blind) (has_short_stack (take count stacks) (take count blinds)) none in
    let empty : eqb stack 0 ≡ false = (or_parts (eqb stack 0) (nat_lt stack blind) whole.0).0 in
    grind (arith, nat_tests, empty)
some_stack (stack ∷ stacks) (blind ∷ blinds) (suc count) (suc k) few few_blinds none inside =
    some_stack stacks blinds count k (omega (arith, few)) (omega (arith, few_blinds)) (or_parts (eqb stack 0 || nat_lt stack blind) (has_short_stack (take count stacks) (take count blinds)) none).1 (omega (arith, inside))

-- of two blinds the second is not greater than the first
in_order : (blinds : List ℕ) → 2 ≤ length blinds → is_reversed (take 2 blinds) ≡ false → get_or blinds 1 0 ≤ get_or blinds 0 0
in_order [] some is = absurd (omega (arith, some))
in_order (first ∷ []) some is = absurd (omega (arith, some))
in_order (first ∷ second ∷ rest) some is = let other : nat_lt first second ≡ false = is in grind (arith, nat_tests, other)

-- the bet sizes of a game are those that its setup uses
record AreSized (no_limit : Bool) (blind small big : ℕ) : Type 0 where
  small_bet : IsSizeWhere (is_fixed_limit (limit_of (code_of no_limit))) small
  big_bet : IsSizeWhere (is_fixed_limit (limit_of (code_of no_limit))) big
  least_bet : IsSizeWhere (not (is_fixed_limit (limit_of (code_of no_limit)))) (if no_limit then blind else 0)

sized : (no_limit : Bool) (blind small big : ℕ) → blind ≤ MOST_CHIPS → has_fitting_sizes no_limit blind small big ≡ true → AreSized no_limit blind small big
sized true blind small big few fit =
    let parts = and_parts (nat_lt 0 blind) (eqb small 0 && eqb big 0) fit in
    let sizes = and_parts (eqb small 0) (eqb big 0) parts.1 in
    let none : eqb small 0 ≡ true = sizes.0 in
    let none_big : eqb big 0 ≡ true = sizes.1 in
    let some : nat_lt 0 blind ≡ true = parts.0 in
    record {
      small_bet = grind (arith, nat_tests, none);
      big_bet = grind (arith, nat_tests, none_big);
      least_bet = (grind (arith, nat_tests, some), few);
    }
sized false blind small big few fit =
    let parts = and_parts (is_size small) (is_size big && (eqb blind 0 || nat_le small blind)) fit in
    record {
      small_bet = size_is small parts.0;
      big_bet = size_is big (and_parts (is_size big) (eqb blind 0 || nat_le small blind) parts.1).0;
      least_bet = refl;
    }

few_players : (no_limit : Bool) (players : ℕ) → players ≤ 10 → players ≤ (game_of (code_of no_limit)).seats
few_players true players few = few
few_players false players few = few

no_bring_in : (no_limit : Bool) → IsSizeWhere (is_stud_game (code_of no_limit)) 0
no_bring_in true = refl
no_bring_in false = refl

no_stud : (no_limit : Bool) → is_stud_game (code_of no_limit) ≡ true → ⊥
no_stud true is = cc (is)
no_stud false is = cc (is)

-- the setup of a game is valid
pub setup_valid : (game : Game) (setup : Setup) → IsSetupOf game setup → IsValid setup
setup_valid game setup is =
    let sizes = sized game.no_limit (greatest (amounts_in game.blinds)) game.small_raise game.big_raise (greatest_within (amounts_in game.blinds) game.few_blinds) game.sizes in
    let players : ◌≡◌ {A = ℕ} game.stacks.seats game.blinds.seats = omega (arith, game.one_row) in
    record {
      same_antes = rw is.stacks is.ante_seats;
      same_blinds = rw (is.stacks, is.blinds) game.one_row;
      few_seats = rw (is.stacks, is.code) (few_players game.no_limit game.stacks.seats game.stacks.greatest);
      stacks = rw is.stacks (λ seat first last. (
        some_stack game.stacks.amounts game.blinds.amounts game.stacks.seats (seat - 1) (omega (arith, game.stacks.full, game.stacks.greatest)) (omega (arith, game.blinds.full, game.stacks.greatest))
            (ap (λ n. has_short_stack (amounts_in game.stacks) (take n game.blinds.amounts)) players ∙ game.stacked) (omega (arith, first, last)),
        chips_of game.stacks game.few seat,
      ));
      antes = λ seat. omega (arith, is.antes seat);
      blinds = rw is.blinds (chips_of game.blinds game.few_blinds);
      bring_in = rw (is.code, is.bring_in) (no_bring_in game.no_limit);
      small_bet = rw (is.code, is.small_bet) sizes.small_bet;
      big_bet = rw (is.code, is.big_bet) sizes.big_bet;
      least_bet = rw (is.code, is.min_bet) sizes.least_bet;
      dead_antes = λ dead. absurd (cc (dead, is.dead_antes));
      heads_up = rw (is.stacks, is.blinds) (λ two.
          let pair : ◌≡◌ {A = ℕ} 2 game.blinds.seats = omega (arith, game.one_row, two) in
          in_order game.blinds.amounts (omega (arith, game.blinds.full)) (ap (λ n. is_reversed (take n game.blinds.amounts)) pair ∙ game.in_order));
      stud = rw is.code (λ stud. absurd (no_stud game.no_limit stud));
      rakes = λ pot. omega (arith, is.rakes pot);
    }
