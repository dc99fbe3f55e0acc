-- A seat is among the flagged ones if and only if its flag is true.
use Rattle.std.proofs.Common.{◌≡◌, ◌≢◌, ℕ, ◌-◌, ◌<◌, ◌≤◌, true, ◌&&◌, ◌==◌, [], get_or, refl, sym, ap, ◌∙◌, arith, ⊎_elim}
use Rattle.std.specs.List.{list_any}
use Rattle.std.proofs.lemmas.Bool.{and_from, cases_lt, eq-eqb, true≢false}
use Rattle.std.proofs.lemmas.List.Folds.{list_any_at}
use Rattle.std.proofs.lemmas.List.FromFn.{get_or-range_with_len, length-range_with_len}
use Rattle.card_set.proofs.Any.{any_found, list_any-filter}
use Rattle.chip_ledger.specs.declared.live_row.LiveRow.{LiveRow}
use Rattle.chip_ledger.specs.LiveRow.{flag_of, flagged}
use Rattle.chip_ledger.specs.Seat.{seats_of}

-- a seat that is among the flagged ones has its flag
pub flag-from_flagged : (row : LiveRow) (n : ℕ)
    → list_any (λ m. m == n) (flagged row) ≡ true
    → flag_of row n ≡ true
flag-from_flagged row n h =
    any_found (flag_of row) n (seats_of row.seats)
    (sym (list_any-filter (λ m. m == n) (flag_of row) (seats_of row.seats)) ∙ h)

-- a seat that has its flag is among the flagged ones
pub flagged-from_flag : (row : LiveRow) (n : ℕ)
    → 1 ≤ n
    → flag_of row n ≡ true
    → list_any (λ m. m == n) (flagged row) ≡ true
flagged-from_flag row n low h =
    let seats = seats_of row.seats in
    let inside : n - 1 < row.seats =
    ⊎_elim (λ (l : n - 1 < row.seats). l)
    (λ (l : row.seats ≤ n - 1). absurd (true≢false (sym h ∙ row.filler (n - 1) l)))
    (cases_lt (n - 1) row.seats) in
    let at : get_or seats (n - 1) 0 ≡ n = get_or-range_with_len 1 row.seats (n - 1) 0 inside ∙ omega arith in
    let long = length-range_with_len 1 row.seats in
    let here : (flag_of row n && (n == n)) ≡ true = and_from (flag_of row n) (n == n) h (eq-eqb n n refl) in
    list_any-filter (λ m. m == n) (flag_of row) seats
    ∙ list_any_at (λ m. flag_of row m && (m == n)) seats (n - 1) 0 (omega arith)
    (ap (λ m. flag_of row m && (m == n)) at ∙ here)

-- a row with a flagged seat has some
pub flagged_some : (row : LiveRow) (n : ℕ) → 1 ≤ n → flag_of row n ≡ true → flagged row ≢ []
flagged_some row n low h none =
    true≢false (sym (flagged-from_flag row n low h) ∙ ap (list_any (λ m. m == n)) none)
