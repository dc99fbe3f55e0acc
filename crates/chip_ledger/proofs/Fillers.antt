-- A new row of two seats is the filler.
use Rattle.std.proofs.Common.{◌≡◌, ℕ, ◌-◌, false, sym, ◌∙◌}
use Rattle.chip_ledger.specs.declared.seat_row.SeatRow.{SeatRow}
use Rattle.chip_ledger.specs.declared.live_row.LiveRow.{LiveRow}
use Rattle.chip_ledger.specs.SeatRow.{amount_of}
use Rattle.chip_ledger.specs.LiveRow.{flag_of}
use Rattle.chip_ledger.specs.Fillers.{index-replicate, no_amounts, no_flags}
use Rattle.chip_ledger.proofs.Same.{seat_row_same_by_seats, live_row_same_by_seats}

pub no_amounts_same : (row : SeatRow) → row.seats ≡ 2 → ((n : ℕ) → amount_of row n ≡ 0) → row ≡ no_amounts
unfolding no_amounts
no_amounts_same row two zero =
    seat_row_same_by_seats row no_amounts two (λ n _ _. zero n ∙ sym (index-replicate 10 0 (n - 1)))

pub no_flags_same : (row : LiveRow) → row.seats ≡ 2 → ((n : ℕ) → flag_of row n ≡ false) → row ≡ no_flags
unfolding no_flags
no_flags_same row two unset =
    live_row_same_by_seats row no_flags two (λ n _ _. unset n ∙ sym (index-replicate 10 false (n - 1)))
