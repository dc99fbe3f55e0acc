use Rattle.std.proofs.Common.{◌≡◌, map}
use Rattle.serde_json.specs.View.{view}
use Rattle.chip_ledger.specs.Seat.{seats_of}
use Rattle.ohh_writing.specs.Tree.{player_tree}
use Rattle.ohh_writing.proofs.players.player_values.Given as goal

-- the trees of the players so far
abbrev pub invariant-loop-index : goal.invariant-loop-index
invariant-loop-index l = map view l.values.items ≡ map (player_tree l.stacks l.notes l.numbers) (seats_of l.index)
