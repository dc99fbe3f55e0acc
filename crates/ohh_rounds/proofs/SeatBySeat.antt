-- A row that is written seat by seat.
use Rattle.std.proofs.Common.{◌≡◌, ◌≢◌, ℕ, ◌≤◌, inl, inr, sym, subst, arith}
use Rattle.std.proofs.lemmas.Bool.{cases_lt}
use Rattle.chip_ledger.specs.declared.seat_row.SeatRow.{SeatRow}
use Rattle.chip_ledger.specs.SeatRow.{amount_of}

-- what holds of each seat's amount still holds if one seat has another amount that it holds of
pub each_seat : (P : ℕ → ℕ → Type 0) (new old : SeatRow) (seat amount : ℕ) → amount_of new seat ≡ amount
    → ((n : ℕ) → 1 ≤ n → n ≢ seat → amount_of new n ≡ amount_of old n)
    → P seat amount → ((n : ℕ) → 1 ≤ n → n ≢ seat → P n (amount_of old n)) → (n : ℕ) → 1 ≤ n → P n (amount_of new n)
each_seat P new old seat amount is others here there n from = elim (cases_lt n seat) [
  | inl below ↦ let apart : n ≢ seat = λ e. omega (arith, below, e) in subst (P n) (sym (others n from apart)) (there n from apart)
  | inr above ↦ elim (cases_lt seat n) [
    | inl beyond ↦ let apart : n ≢ seat = λ e. omega (arith, beyond, e) in subst (P n) (sym (others n from apart)) (there n from apart)
    | inr within ↦ let same : n ≡ seat = omega (arith, above, within) in subst (λ (m : ℕ). P m (amount_of new m)) (sym same) (subst (P seat) (sym is) here)
  ]
]
