-- A row, and the rakes of a hand without rake, as lists of numbers.
use Rattle.std.proofs.Common.{◌≡◌, ℕ, ◌+◌, ◌-◌, ◌≤◌, map, slice_index, sym, subst, ◌∙◌, ap, arith, take}
use Rattle.card_set.proofs.NumbersOfRange.{taken_index_along}
use Rattle.chip_ledger.specs.declared.rakes.RakeRow.{RakeRow}
use Rattle.chip_ledger.specs.declared.seat_row.SeatRow.{SeatRow}
use Rattle.chip_ledger.specs.Fillers.{index-replicate}
use Rattle.chip_ledger.specs.RakeRow.{no_rakes, rake_of}
use Rattle.chip_ledger.specs.Seat.{seats_of}
use Rattle.chip_ledger.specs.SeatRow.{amount_of, amounts_in}

-- a row with these amounts is the list of them
pub row_listed : (f : ℕ → ℕ) (row : SeatRow) (seats : ℕ) → row.seats ≡ seats
    → ((seat : ℕ) → 1 ≤ seat → seat ≤ seats → amount_of row seat ≡ f seat)
    → amounts_in row ≡ map f (seats_of seats)
row_listed f row seats same each =
    ap (λ count. take count row.amounts) same
    ∙ taken_index_along f row.amounts 1 seats (omega (arith, row.full, row.greatest, same))
    (λ k within. sym (ap (slice_index row.amounts) (back k)) ∙ each (1 + k) (omega arith) (omega (arith, within)))
  where
    back : (k : ℕ) → 1 + k - 1 ≡ k
    back k = omega arith

-- if no rake is taken, none is taken from any pot
pub no_rake : (rakes : RakeRow) → rakes ≡ no_rakes → (pot : ℕ) → rake_of rakes pot ≡ 0
no_rake rakes none pot = subst (λ (row : RakeRow). rake_of row pot ≡ 0) (sym none) (index-replicate {X = ℕ} 11 0 (pot - 1))
