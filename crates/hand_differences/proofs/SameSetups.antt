-- Setups that differ in no row are equal.
use Rattle.std.proofs.Common.{◌≡◌, ℕ, Bool, true, false, not, ◌&&◌, ◌==◌, List, bytes_eq, cond, Option, Some, None, refl, ap}
use Rattle.std.proofs.lemmas.Bool.{and_parts, and_from, eq-eqb, eqb-true}
use Rattle.card_set.proofs.Bytes.{same_bytes}
use Rattle.card_set.proofs.Options.{some_is_none}
use Rattle.card_set.proofs.Tests.{not_not}
use Rattle.chip_ledger.specs.SeatRow.{amounts_in}
use Rattle.hand_canon.proofs.SameSetups.{amounts_same, rakes_same, setups_same}
use Rattle.play_event.specs.Code.{code_text}
use Rattle.play_event.specs.declared.setup.Setup.{Setup}
use Rattle.hand_differences.proofs.ExactTests.{exact_bytes, exact_tests, one_game}
use Rattle.hand_differences.specs.FirstDifference.{PlainDifference, first_holding, has_other_antes, has_other_sizes, setup_rows, Variant, SeatCount, Stacks, BetSizes, Antes, Blinds, Rake}
use Rattle.hand_differences.specs.SameParts.{is_same_test}

-- if no row is reported, the first does not hold
pub no_row : (b : Bool) (difference : PlainDifference) (rest : Option PlainDifference) → cond b (Some difference) rest ≡ None → (b ≡ false) × (rest ≡ None)
no_row true difference rest none = absurd (some_is_none none)
no_row false difference rest none = (refl, none)

-- numbers that do not differ
same_numbers : (xs ys : List ℕ) → not (bytes_eq xs ys) ≡ false → xs ≡ ys
same_numbers xs ys is = exact_bytes.one xs ys (not_not (bytes_eq xs ys) is)

-- setups for which no row holds are equal
pub setup_of_rows : (a b : Setup) → first_holding (setup_rows a b) ≡ None → a ≡ b
setup_of_rows a b none =
    let variant = no_row (not (bytes_eq (code_text a.code) (code_text b.code))) Variant _ none in
    let count = no_row (not (a.stacks.seats == b.stacks.seats)) SeatCount _ variant.1 in
    let stacks = no_row (not (bytes_eq (amounts_in a.stacks) (amounts_in b.stacks))) Stacks _ count.1 in
    let sizes = no_row (has_other_sizes a b) BetSizes _ stacks.1 in
    let antes = no_row (has_other_antes a b) Antes _ sizes.1 in
    let blinds = no_row (not (bytes_eq (amounts_in a.blinds) (amounts_in b.blinds))) Blinds _ antes.1 in
    let rakes = no_row (not (bytes_eq a.rakes.rakes b.rakes.rakes)) Rake None blinds.1 in
    let three = and_parts ((a.bring_in == b.bring_in) && (a.small_bet == b.small_bet) && (a.big_bet == b.big_bet)) (a.min_bet == b.min_bet) (not_not _ sizes.0) in
    let two = and_parts ((a.bring_in == b.bring_in) && (a.small_bet == b.small_bet)) (a.big_bet == b.big_bet) three.0 in
    let one = and_parts (a.bring_in == b.bring_in) (a.small_bet == b.small_bet) two.0 in
    let ante = and_parts (bytes_eq (amounts_in a.antes) (amounts_in b.antes)) (is_same_test a.dead_antes b.dead_antes) (not_not _ antes.0) in
    setups_same a b (record {
      code = one_game a.code b.code (same_numbers (code_text a.code) (code_text b.code) variant.0);
      stacks = amounts_same a.stacks b.stacks (same_numbers (amounts_in a.stacks) (amounts_in b.stacks) stacks.0);
      antes = amounts_same a.antes b.antes (exact_bytes.one (amounts_in a.antes) (amounts_in b.antes) ante.0);
      dead_antes = exact_tests.one a.dead_antes b.dead_antes ante.1;
      blinds = amounts_same a.blinds b.blinds (same_numbers (amounts_in a.blinds) (amounts_in b.blinds) blinds.0);
      bring_in = eqb-true a.bring_in b.bring_in one.0;
      small_bet = eqb-true a.small_bet b.small_bet one.1;
      big_bet = eqb-true a.big_bet b.big_bet two.1;
      min_bet = eqb-true a.min_bet b.min_bet three.1;
      rakes = rakes_same a.rakes b.rakes (same_numbers a.rakes.rakes b.rakes.rakes rakes.0);
    })

-- a row that does not hold is passed over
row_passed : (b : Bool) (difference : PlainDifference) (rest : Option PlainDifference) → b ≡ false → rest ≡ None → cond b (Some difference) rest ≡ None
row_passed true difference rest off none = absurd (cc)
row_passed false difference rest off none = none

own_numbers : (xs : List ℕ) → not (bytes_eq xs xs) ≡ false
own_numbers xs = ap not (same_bytes xs)

own_sizes : (a : Setup) → has_other_sizes a a ≡ false
own_sizes a =
    ap not (and_from ((a.bring_in == a.bring_in) && (a.small_bet == a.small_bet) && (a.big_bet == a.big_bet)) (a.min_bet == a.min_bet)
    (and_from ((a.bring_in == a.bring_in) && (a.small_bet == a.small_bet)) (a.big_bet == a.big_bet)
    (and_from (a.bring_in == a.bring_in) (a.small_bet == a.small_bet) (eq-eqb a.bring_in a.bring_in refl) (eq-eqb a.small_bet a.small_bet refl))
    (eq-eqb a.big_bet a.big_bet refl)) (eq-eqb a.min_bet a.min_bet refl))

own_antes : (a : Setup) → has_other_antes a a ≡ false
own_antes a = ap not (and_from (bytes_eq (amounts_in a.antes) (amounts_in a.antes)) (is_same_test a.dead_antes a.dead_antes) (same_bytes (amounts_in a.antes)) (exact_tests.own a.dead_antes))

-- and for equal setups none holds
pub no_rows : (a : Setup) → first_holding (setup_rows a a) ≡ None
no_rows a =
    row_passed _ Variant _ (own_numbers (code_text a.code))
    (row_passed _ SeatCount _ (ap not (eq-eqb a.stacks.seats a.stacks.seats refl))
    (row_passed _ Stacks _ (own_numbers (amounts_in a.stacks))
    (row_passed _ BetSizes _ (own_sizes a)
    (row_passed _ Antes _ (own_antes a)
    (row_passed _ Blinds _ (own_numbers (amounts_in a.blinds))
    (row_passed _ Rake None (own_numbers a.rakes.rakes) refl))))))
