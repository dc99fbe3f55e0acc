use Rattle.std.proofs.Common.{◌≡◌, ℕ, ◌<◌, ◌≤◌, length, map, take, slice_index}
use Rattle.hand_canon.specs.AllowedNotes.{IsWithin}
use Rattle.ohh_members.specs.Players.{plain_player}
use Rattle.ohh_reading.proofs.notes.seats_of.Given as goal

-- the seats so far are those of the players so far, and after them come zeros
abbrev pub invariant-loop-index : goal.invariant-loop-index
invariant-loop-index l = record {
  ten : length l.seats ≡ 10;
  each : (k : ℕ) → k < l.index → IsWithin 1 255 (slice_index l.seats k);
  zeros : (k : ℕ) → l.index ≤ k → slice_index l.seats k ≡ 0;
  read : take l.index l.seats ≡ map (λ player. player.seat) (map plain_player (take l.index l.seated.players.now));
}
