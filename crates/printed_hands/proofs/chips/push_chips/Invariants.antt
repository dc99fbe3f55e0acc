-- The seats so far have what is left of their stacks.
use Rattle.std.proofs.Common.{◌≡◌, ◌-◌, ◌≤◌, ℕ}
use Rattle.chip_ledger.specs.SeatRow.{amount_of}
use Rattle.printed_hands.proofs.chips.push_chips.Given as goal

abbrev pub invariant-loop-index : goal.invariant-loop-index
invariant-loop-index l =
    (l.left.seats ≡ l.setup.stacks.seats)
    × ((n : ℕ) → 1 ≤ n → n ≤ l.index → amount_of l.left n ≡ amount_of l.setup.stacks n - amount_of l.put n)
