-- The seats so far have the amount.
use Rattle.std.proofs.Common.{◌≡◌, ◌≤◌, ℕ}
use Rattle.chip_ledger.specs.SeatRow.{amount_of}
use Rattle.hand_gen.proofs.setups.even_row.Given as goal

abbrev pub invariant-loop-index : goal.invariant-loop-index
invariant-loop-index l =
    (l.row.seats ≡ l.fn.players.number) × ((seat : ℕ) → 1 ≤ seat → seat ≤ l.index → amount_of l.row seat ≡ l.amount)
