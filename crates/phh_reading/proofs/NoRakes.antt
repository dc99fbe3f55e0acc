-- If there are no rakes, none is more than the limit of amounts.
use Rattle.std.proofs.Common.{◌≡◌, ℕ, ◌-◌, ◌≤◌, sym, subst, arith}
use Rattle.chip_ledger.specs.declared.rakes.RakeRow.{RakeRow}
use Rattle.chip_ledger.specs.declared.seat_row.TheConstants.{MOST_AMOUNT}
use Rattle.chip_ledger.specs.Fillers.{index-replicate}
use Rattle.chip_ledger.specs.RakeRow.{rake_of, no_rakes}

pub none_above : (rakes : RakeRow) → rakes ≡ no_rakes → (pot : ℕ) → rake_of rakes pot ≤ MOST_AMOUNT
none_above rakes none pot =
    subst (λ (row : RakeRow). rake_of row pot ≤ MOST_AMOUNT) (sym none) (omega (arith, index-replicate {X = ℕ} 11 0 (pot - 1)))
