use Rattle.std.proofs.Common.{◌≡◌, [], length, map}
use Rattle.serde_json.specs.View.{view}
use Rattle.ohh_members.specs.Players.{plain_player, player_added}
use Rattle.first_fault.specs.Reading.{added_from}
use Rattle.first_fault.proofs.Added.{add_left}
use Rattle.ohh_members.proofs.players.add_players.Given as goal

-- the players so far, and those of the values that are left, are all of them
abbrev pub invariant-loop-index : goal.invariant-loop-index
invariant-loop-index l = record {
  count : length l.players.items ≡ l.index;
  read : add_left view player_added (map plain_player l.players.items) l.index l.values ≡ added_from player_added [] 0 (map view l.values);
}
