use Rattle.std.proofs.Common.{◌≡◌, drop, map}
use Rattle.ohh_members.specs.Players.{has_id, plain_player}
use Rattle.ohh_members.proofs.players.is_id_taken.Given as goal

-- some player has it if one of those that are left does
abbrev pub invariant-loop-player : goal.invariant-loop-player
invariant-loop-player l = has_id l.id (map plain_player (drop l.player-index l.players)) ≡ has_id l.id (map plain_player l.players)
