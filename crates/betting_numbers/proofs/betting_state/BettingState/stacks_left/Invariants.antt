use Rattle.std.proofs.Common.{◌≡◌, ◌≤◌, ℕ}
use Rattle.chip_ledger.specs.SeatRow.{amount_of}
use Rattle.betting_numbers.specs.Seen.{left_seen}
use Rattle.betting_numbers.proofs.betting_state.BettingState.stacks_left.Given as goal

abbrev pub invariant-loop-index : goal.invariant-loop-index
invariant-loop-index l = (l.row.seats ≡ l.self.setup.stacks.seats) × ((n : ℕ) → 1 ≤ n → n ≤ l.index → amount_of l.row n ≡ left_seen l.self n)
