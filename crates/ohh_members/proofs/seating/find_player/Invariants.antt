use Rattle.std.proofs.Common.{◌≡◌, drop, map}
use Rattle.ohh_members.specs.Players.{player_at, plain_player}
use Rattle.ohh_members.proofs.seating.find_player.Given as goal

-- the player is among those that are left
abbrev pub invariant-loop-player : goal.invariant-loop-player
invariant-loop-player l = player_at l.seat (map plain_player (drop l.player-index l.players)) ≡ player_at l.seat (map plain_player l.players)
