-- The setup of a hand that fits a game makes one.
use Rattle.std.proofs.Common.{◌≡◌, ℕ, zero, suc, ◌+◌, ◌≤◌, ◌<◌, Bool, true, false, not, nat_le, eqb, ◌||◌, if◌then◌else◌, List, [], ◌∷◌, length, take, slice_index, Some, refl, sym, ap, subst, ◌∙◌, arith}
use Rattle.std.proofs.lemmas.Bool.{le-leb, eqb-true, lt-ltb}
use Rattle.std.proofs.lemmas.Bool.Decides.{nat_tests}
use Rattle.chip_ledger.specs.SeatRow.{amount_of, amounts_in}
use Rattle.chip_ledger.specs.declared.numbers.TheConstants.{MOST_CHIPS}
use Rattle.chip_ledger.specs.declared.seat_row.SeatRow.{SeatRow}
use Rattle.play_event.specs.declared.code.Code.{Code}
use Rattle.play_event.specs.declared.code.Code.TheVariants as codes
use Rattle.play_event.specs.declared.setup.Setup.{Setup}
use Rattle.play_event.specs.Streets.{limit_of}
use Rattle.play_event.specs.ValidSetup.{IsSizeWhere, IsValid, is_fixed_limit}
use Rattle.acpc_game.specs.GameFile.{has_short_stack, is_reversed}
use Rattle.acpc_game.specs.Games.{are_chips, has_fitting_sizes}
use Rattle.acpc_format.specs.GameOf.{MakesGame, is_sized_by_blind, no_limit_of}
use Rattle.chip_ledger.specs.Greatest.{greatest}

chips_of : (amounts : List ℕ) (count : ℕ) → ((k : ℕ) → k < count → slice_index amounts k ≤ MOST_CHIPS) → are_chips (take count amounts) ≡ true
chips_of amounts zero each = refl
chips_of [] (suc count) each = refl
chips_of (amount ∷ amounts) (suc count) each =
    rw (le-leb amount MOST_CHIPS (each 0 (omega arith)), chips_of amounts count (λ k within. each (suc k) (omega (arith, within)))) refl

at_index : (row : SeatRow) (k : ℕ) → amount_of row (k + 1) ≡ slice_index row.amounts k
at_index row k = ap (slice_index row.amounts) (omega arith)

not_reversed : (amounts : List ℕ) (count : ℕ) → length amounts ≡ 10 → (count ≡ 2 → slice_index amounts 1 ≤ slice_index amounts 0) → is_reversed (take count amounts) ≡ false
not_reversed [] count full order = absurd (omega (arith, full))
not_reversed (a ∷ []) count full order = absurd (omega (arith, full))
not_reversed (a ∷ b ∷ []) count full order = absurd (omega (arith, full))
not_reversed (a ∷ b ∷ c ∷ rest) zero full order = refl
not_reversed (a ∷ b ∷ c ∷ rest) (suc zero) full order = refl
not_reversed (a ∷ b ∷ c ∷ rest) (suc (suc zero)) full order = let second : b ≤ a = order (omega arith) in grind (arith, nat_tests, second)
not_reversed (a ∷ b ∷ c ∷ rest) (suc (suc (suc count))) full order = refl

-- the sizes of a valid setup
pub record HasSizes (code : Code) (small big least : ℕ) : Type 0 where
  pub small_bet : IsSizeWhere (is_fixed_limit (limit_of code)) small
  pub big_bet : IsSizeWhere (is_fixed_limit (limit_of code)) big
  pub least_bet : IsSizeWhere (not (is_fixed_limit (limit_of code))) least

limited : (small big blind : ℕ) → (1 ≤ small) × (small ≤ MOST_CHIPS) → (1 ≤ big) × (big ≤ MOST_CHIPS) → (eqb blind 0 || nat_le small blind) ≡ true → has_fitting_sizes false blind small big ≡ true
limited small big blind one other fits =
    rw (le-leb 1 small one.0, le-leb small MOST_CHIPS one.1, le-leb 1 big other.0, le-leb big MOST_CHIPS other.1) fits

unlimited : (small big least blind : ℕ) → small ≡ 0 → big ≡ 0 → 1 ≤ least → eqb least blind ≡ true → has_fitting_sizes true blind small big ≡ true
unlimited small big least blind none nothing some fits =
    let same = eqb-true least blind fits in
    rw (none, nothing, lt-ltb 0 blind (omega (arith, some, same))) refl

sizes_fit : (code : Code) (no_limit : Bool) (small big least blind : ℕ) → no_limit_of code ≡ Some no_limit → HasSizes code small big least
    → (if no_limit then eqb least blind else eqb blind 0 || nat_le small blind) ≡ true → has_fitting_sizes no_limit blind small big ≡ true
sizes_fit codes.NT true small big least blind is has fits = unlimited small big least blind has.small_bet has.big_bet has.least_bet.0 fits
sizes_fit codes.FT false small big least blind is has fits = limited small big blind has.small_bet has.big_bet fits
sizes_fit codes.NT false small big least blind is has fits = absurd (cc (is))
sizes_fit codes.FT true small big least blind is has fits = absurd (cc (is))
sizes_fit codes.NS no_limit small big least blind is has fits = absurd (cc (is))
sizes_fit codes.PO no_limit small big least blind is has fits = absurd (cc (is))
sizes_fit codes.FO8 no_limit small big least blind is has fits = absurd (cc (is))
sizes_fit codes.F7S no_limit small big least blind is has fits = absurd (cc (is))
sizes_fit codes.F7S8 no_limit small big least blind is has fits = absurd (cc (is))
sizes_fit codes.FR no_limit small big least blind is has fits = absurd (cc (is))
sizes_fit codes.N2L1D no_limit small big least blind is has fits = absurd (cc (is))
sizes_fit codes.F2L3D no_limit small big least blind is has fits = absurd (cc (is))
sizes_fit codes.FB no_limit small big least blind is has fits = absurd (cc (is))

pub makes_game : (no_limit : Bool) (setup : Setup) → IsValid setup → no_limit_of setup.code ≡ Some no_limit
    → has_short_stack (amounts_in setup.stacks) (amounts_in setup.blinds) ≡ false → is_sized_by_blind no_limit setup ≡ true → MakesGame no_limit setup
makes_game no_limit setup valid is stacked fits = record {
  one_row = valid.same_blinds;
  few = chips_of setup.stacks.amounts setup.stacks.seats (λ k within. subst (λ (n : ℕ). n ≤ MOST_CHIPS) (at_index setup.stacks k) (valid.stacks (k + 1) (omega arith) (omega (arith, within))).1);
  few_blinds = chips_of setup.blinds.amounts setup.blinds.seats (λ k within. subst (λ (n : ℕ). n ≤ MOST_CHIPS) (at_index setup.blinds k) (valid.blinds (k + 1)));
  stacked = stacked;
  in_order = not_reversed setup.blinds.amounts setup.blinds.seats setup.blinds.full (λ two. valid.heads_up (sym valid.same_blinds ∙ two));
  sizes = sizes_fit setup.code no_limit setup.small_bet setup.big_bet setup.min_bet (greatest (amounts_in setup.blinds)) is
      (record { small_bet = valid.small_bet; big_bet = valid.big_bet; least_bet = valid.least_bet }) fits;
}
