use Rattle.std.proofs.Common.{◌≡◌, map}
use Rattle.std.specs.List.{flat_map}
use Rattle.serde_json.specs.View.{view}
use Rattle.chip_ledger.specs.Seat.{seats_of}
use Rattle.ohh_writing.specs.Tree.{win_tree}
use Rattle.ohh_writing.proofs.pots.win_values.Given as goal

-- the trees of what the seats so far win
abbrev pub invariant-loop-index : goal.invariant-loop-index
invariant-loop-index l = map view l.wins.items ≡ flat_map (win_tree l.share) (seats_of l.index)
