use Rattle.std.proofs.Common.{◌≡◌, drop, map, fold}
use Rattle.std.specs.Prelude.{option_map}
use Rattle.ohh_members.specs.Players.{above, lower, lowest, plain_player}
use Rattle.ohh_members.proofs.seating.lowest_above.Given as goal

-- the lowest so far, and those that are left, have the lowest of all
abbrev pub invariant-loop-player : goal.invariant-loop-player
invariant-loop-player l = fold lower (option_map plain_player l.found) (above l.seat (map plain_player (drop l.player-index l.players))) ≡ lowest (above l.seat (map plain_player l.players))
