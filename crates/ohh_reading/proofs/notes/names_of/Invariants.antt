use Rattle.std.proofs.Common.{◌≡◌, ℕ, ◌+◌, ◌<◌, ◌≤◌, ◌++◌, None, IfSome, length, map, take, drop, slice_index_or}
use Rattle.hand_canon.specs.AllowedNotes.{IsName}
use Rattle.ohh_reading.specs.Notes.{names_from}
use Rattle.ohh_members.specs.Players.{plain_player}
use Rattle.ohh_reading.proofs.notes.names_of.Given as goal

-- the names so far and those of the players that are left are all of them, and there are none after
-- those so far
abbrev pub invariant-loop-index : goal.invariant-loop-index
invariant-loop-index l = record {
  ten : length l.names ≡ 10;
  each : (k : ℕ) → k < l.index → IfSome (slice_index_or l.names k None) (IsName (k + 1));
  none : (k : ℕ) → l.index ≤ k → slice_index_or l.names k None ≡ None;
  read : take l.index l.names ++ names_from (l.index + 1) (map plain_player (drop l.index l.seated.players.now)) ≡ names_from 1 (map plain_player l.seated.players.now);
}
