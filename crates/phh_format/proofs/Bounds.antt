-- Bounds of what is written as a number.
use Rattle.std.proofs.Common.{◌≡◌, ℕ, ◌+◌, ◌≤◌, Bool, true, false, cond, nat_le, List, slice_index, Option, Some, None, IfSome, refl, subst, sym, arith}
use Rattle.std.specs.Str.Parse.{digits_value}
use Rattle.std.proofs.lemmas.Bool.{leb-true}
use Rattle.first_fault.specs.Digits.{number_of}
use Rattle.chip_ledger.specs.declared.rakes.RakeRow.{RakeRow}
use Rattle.chip_ledger.specs.declared.seat_row.TheConstants.{MOST_AMOUNT}
use Rattle.chip_ledger.specs.RakeRow.{rake_of}

-- a number within the greatest is no greater
within : (most value : ℕ) (small : Bool) → nat_le value most ≡ small → IfSome (cond small (Some value) None) (λ number. number ≤ most)
within most value true is = leb-true value most is
within most value false is = tt

pub number_within : (most : ℕ) (digits : List ℕ) (found : Option ℕ) → found ≡ number_of most digits → IfSome found (λ number. number ≤ most)
unfolding number_of
number_within most digits found is =
    subst (λ (f : Option ℕ). IfSome f (λ number. number ≤ most)) (sym is) (within most (digits_value 10 digits) (nat_le (digits_value 10 digits) most) refl)

-- the rake at an index is that of the pot with the next number
pub rake_within : (row : RakeRow) → ((pot : ℕ) → rake_of row pot ≤ MOST_AMOUNT) → (k : ℕ) → slice_index row.rakes k ≤ MOST_AMOUNT
rake_within row each k = subst (λ (n : ℕ). slice_index row.rakes n ≤ MOST_AMOUNT) (omega arith) (each (k + 1))
