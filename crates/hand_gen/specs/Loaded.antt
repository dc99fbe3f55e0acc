-- One more play in a summary, and how great the numbers of a count of plays may be.
use Rattle.std.specs.Prelude.{◌≡◌, ◌≤◌, ℕ, ◌+◌, ◌*◌, ◌^◌}
use Rattle.hand_gen.specs.declared.summary.PlayCounts.{PlayCounts}
use Rattle.hand_gen.specs.declared.summary.Summary.{Summary}

-- a summary has the numbers of one more play than another
pub record IsWithCounts (before : Summary) (counts : PlayCounts) (after : Summary) : Type 0 where
  pub hands : after.hands ≡ before.hands + 1
  pub moves : after.moves ≡ before.moves + counts.moves
  pub pots : after.pots ≡ before.pots + counts.pots
  pub phh : after.phh ≡ before.phh + counts.phh
  pub ohh : after.ohh ≡ before.ohh + counts.ohh.hands
  pub ohh_bytes : after.ohh_bytes ≡ before.ohh_bytes + counts.ohh.bytes
  pub acpc : after.acpc ≡ before.acpc + counts.acpc.hands
  pub acpc_bytes : after.acpc_bytes ≡ before.acpc_bytes + counts.acpc.bytes

-- the numbers of this many plays are not too great for a sum of 128 bits
pub record IsFewIn (count : ℕ) (summary : Summary) : Type 0 where
  pub hands : summary.hands ≤ count
  pub moves : summary.moves ≤ count * 2 ^ 64
  pub pots : summary.pots ≤ count * (11 * 2 ^ 64)
  pub phh : summary.phh ≤ count
  pub ohh : summary.ohh ≤ count
  pub ohh_bytes : summary.ohh_bytes ≤ count * 2 ^ 64
  pub acpc : summary.acpc ≤ count
  pub acpc_bytes : summary.acpc_bytes ≤ count * 2 ^ 64
