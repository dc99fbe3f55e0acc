-- Rows of amounts made from lists, for hands that are written out.
use Rattle.std.specs.Prelude.{◌≡◌, ℕ, zero, suc, ◌-◌, ◌≤◌, Bool, ◌&&◌, nat_le, List, [], ◌∷◌, ◌++◌, length, replicate, slice_index, IsTrue}
use Rattle.std.specs.List.{list_all}
use Rattle.std.proofs.Common.{arith, refl, length-append}
use Rattle.std.proofs.lemmas.List.{length-replicate}
use Rattle.std.proofs.lemmas.Bool.{and_parts, leb-true}
use Rattle.chip_ledger.specs.declared.seat_row.SeatRow.{SeatRow}
use Rattle.chip_ledger.specs.declared.seat_row.TheConstants.{MOST_AMOUNT}

-- a list of two to ten amounts
abbrev pub is_row : List ℕ → Bool
is_row amounts =
    nat_le 2 (length amounts)
    && (nat_le (length amounts) 10 && list_all (λ amount. nat_le amount MOST_AMOUNT) amounts)

-- the amounts, and zeros after them up to ten
abbrev pub filled : List ℕ → List ℕ
filled amounts = amounts ++ replicate (10 - length amounts) 0

-- amounts of 0 are 0 at every index
pub zeros : (n k : ℕ) → slice_index (replicate n 0) k ≡ 0
zeros zero k = refl
zeros (suc n) zero = refl
zeros (suc n) (suc k) = zeros n k

-- amounts with zeros after them are no more than a row may hold
pub within : (amounts : List ℕ) (n : ℕ)
    → IsTrue (list_all (λ amount. nat_le amount MOST_AMOUNT) amounts) → (k : ℕ)
    → slice_index (amounts ++ replicate n 0) k ≤ MOST_AMOUNT
within [] n all k = omega (arith, zeros n k)
within (amount ∷ rest) n all zero =
    leb-true amount MOST_AMOUNT
    (and_parts (nat_le amount MOST_AMOUNT)
    (list_all (λ other. nat_le other MOST_AMOUNT) rest) all).0
within (amount ∷ rest) n all (suc k) =
    within rest n
    (and_parts (nat_le amount MOST_AMOUNT)
    (list_all (λ other. nat_le other MOST_AMOUNT) rest) all).1
    k

-- after the amounts there are zeros
pub behind : (amounts : List ℕ) (n k : ℕ) → length amounts ≤ k
    → slice_index (amounts ++ replicate n 0) k ≡ 0
behind [] n k late = zeros n k
behind (amount ∷ rest) n zero late = absurd (omega (arith, late))
behind (amount ∷ rest) n (suc k) late = behind rest n k (omega (arith, late))

-- amounts and zeros are ten together
pub whole : (amounts : List ℕ) → length amounts ≤ 10 → length (filled amounts) ≡ 10
whole amounts few =
    omega (
      arith,
      length-append amounts (replicate (10 - length amounts) 0),
      length-replicate {A = ℕ} (10 - length amounts) 0,
    )

-- the row of these amounts
abbrev pub row_of : (amounts : List ℕ) → IsTrue (is_row amounts) → SeatRow
row_of amounts fits =
    let first =
    and_parts (nat_le 2 (length amounts))
    (nat_le (length amounts) 10 && list_all (λ amount. nat_le amount MOST_AMOUNT) amounts)
    fits in
    let second =
    and_parts (nat_le (length amounts) 10)
    (list_all (λ amount. nat_le amount MOST_AMOUNT) amounts) first.1 in
    record {
      seats = length amounts;
      amounts = filled amounts;
      least = leb-true 2 (length amounts) first.0;
      greatest = leb-true (length amounts) 10 second.0;
      full = whole amounts (leb-true (length amounts) 10 second.0);
      bounded = within amounts (10 - length amounts) second.1;
      filler = behind amounts (10 - length amounts);
    }
