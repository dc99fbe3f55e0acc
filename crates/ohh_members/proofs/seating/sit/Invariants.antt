use Rattle.std.proofs.Common.{◌≡◌, ◌-◌, ◌++◌, length, map}
use Rattle.ohh_members.specs.Players.{plain_player, round_from, seated}
use Rattle.ohh_members.proofs.seating.sit.Given as goal

-- those who sit, and those who come after the last of them, are all players from the button on
abbrev pub invariant-loop-seat : goal.invariant-loop-seat
invariant-loop-seat l = record {
  count : length l.found.items ≡ l._seat;
  order : map plain_player l.found.items ++ round_from (map plain_player l.players) (plain_player l.last) (length l.players - l._seat) ≡ seated (map plain_player l.players) (plain_player l.button);
}
