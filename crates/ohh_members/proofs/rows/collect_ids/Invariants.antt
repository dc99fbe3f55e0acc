use Rattle.std.proofs.Common.{◌≡◌, length, map, take}
use Rattle.ohh_members.specs.Header.{ids_of}
use Rattle.ohh_members.specs.Players.{plain_player}
use Rattle.ohh_members.proofs.rows.collect_ids.Given as goal

-- the ids so far are those of the players so far
abbrev pub invariant-loop-player : goal.invariant-loop-player
invariant-loop-player l = record {
  count : length l.ids.items ≡ l.player-index;
  said : l.ids.items ≡ ids_of (map plain_player (take l.player-index l.players));
}
