use Rattle.std.proofs.Common.{◌≡◌, ◌≤◌, ◌-◌, ℕ, length, slice_index}
use Rattle.play_event.specs.Chips.{posted}
use Rattle.acpc_format.proofs.puts.posted_chips.Given as goal

-- the seats so far have what they post
abbrev pub invariant-loop-index : goal.invariant-loop-index
invariant-loop-index l = record {
  full : length l.put ≡ 10;
  posted : (seat : ℕ) → 1 ≤ seat → seat ≤ l.index → slice_index l.put (seat - 1) ≡ posted l.setup seat;
}
