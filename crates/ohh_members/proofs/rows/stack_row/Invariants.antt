use Rattle.std.proofs.Common.{◌≡◌, ℕ, ◌<◌, ◌≤◌, length, map, take, slice_index}
use Rattle.chip_ledger.specs.declared.numbers.TheConstants.{MOST_CHIPS}
use Rattle.ohh_members.specs.Header.{stacks_of}
use Rattle.ohh_members.specs.Players.{plain_player}
use Rattle.ohh_members.proofs.rows.stack_row.Given as goal

-- the stacks so far are those of the players so far, and after them come zeros
abbrev pub invariant-loop-index : goal.invariant-loop-index
invariant-loop-index l = record {
  ten : length l.amounts ≡ 10;
  least : (k : ℕ) → k < l.index → 1 ≤ slice_index l.amounts k;
  most : (k : ℕ) → slice_index l.amounts k ≤ MOST_CHIPS;
  zeros : (k : ℕ) → l.index ≤ k → slice_index l.amounts k ≡ 0;
  read : take l.index l.amounts ≡ stacks_of (map plain_player (take l.index l.seated.players.now));
}
