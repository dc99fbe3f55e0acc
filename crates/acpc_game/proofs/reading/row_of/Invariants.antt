use Rattle.std.proofs.Common.{◌≡◌, ℕ, ◌≤◌, length, take, slice_index}
use Rattle.acpc_game.proofs.reading.row_of.Given as goal
use Rattle.chip_ledger.specs.declared.seat_row.TheConstants.{MOST_AMOUNT}

-- the amounts so far are written, followed by zeros
abbrev pub invariant-loop-index : goal.invariant-loop-index
invariant-loop-index l = record {
  ten : length l.amounts ≡ 10;
  bounded : (k : ℕ) → slice_index l.amounts k ≤ MOST_AMOUNT;
  zeros : (k : ℕ) → l.index ≤ k → slice_index l.amounts k ≡ 0;
  written : take l.index l.amounts ≡ take l.index l.players.amounts.now;
}
