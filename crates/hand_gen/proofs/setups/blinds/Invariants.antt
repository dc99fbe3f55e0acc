-- The seats so far have their blinds.
use Rattle.std.proofs.Common.{◌≡◌, ◌≤◌, ℕ, if◌then◌else◌}
use Rattle.chip_ledger.specs.SeatRow.{amount_of}
use Rattle.hand_gen.specs.Setups.{blind_of}
use Rattle.hand_gen.proofs.setups.blinds.Given as goal

abbrev pub invariant-loop-index : goal.invariant-loop-index
invariant-loop-index l =
    (l.row.seats ≡ l.players.number)
    × ((seat : ℕ) → 1 ≤ seat → seat ≤ l.index → amount_of l.row seat ≡ (if l.stud then 0 else blind_of l.players.number seat))
