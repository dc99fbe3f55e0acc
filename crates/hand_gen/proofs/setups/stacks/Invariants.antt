-- The seats so far have their stacks.
use Rattle.std.proofs.Common.{◌≡◌, ◌+◌, ◌≤◌, ℕ}
use Rattle.chip_ledger.specs.SeatRow.{amount_of}
use Rattle.hand_gen.specs.Draws.{choice_among, number_after}
use Rattle.hand_gen.proofs.setups.stacks.Given as goal

abbrev pub invariant-loop-index : goal.invariant-loop-index
invariant-loop-index l =
    (l.row.seats ≡ l.fn.players.number)
    × (l.number ≡ number_after l.index l.initial.number)
    × ((seat : ℕ) → 1 ≤ seat → seat ≤ l.index → amount_of l.row seat ≡ 100 + choice_among 401 (number_after seat l.initial.number))
