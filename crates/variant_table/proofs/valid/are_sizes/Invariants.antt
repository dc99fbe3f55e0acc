use Rattle.std.proofs.Common.{ℕ, ◌≤◌, IsTrue}
use Rattle.chip_ledger.specs.SeatRow.{amount_of}
use Rattle.play_event.specs.ValidSetup.{IsSize}
use Rattle.variant_table.proofs.valid.are_sizes.Given as goal

abbrev pub invariant-loop-index : goal.invariant-loop-index
invariant-loop-index l = IsTrue l.sizes → (seat : ℕ) → 1 ≤ seat → seat ≤ l.index → IsSize (amount_of l.row seat)
