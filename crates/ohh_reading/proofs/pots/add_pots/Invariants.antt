use Rattle.std.proofs.Common.{◌≡◌, length, map}
use Rattle.serde_json.specs.View.{view}
use Rattle.ohh_reading.specs.Pots.{no_pots, plain_found, pot_added}
use Rattle.first_fault.specs.Reading.{added_from}
use Rattle.first_fault.proofs.Added.{add_left}
use Rattle.ohh_reading.proofs.pots.add_pots.Given as goal

-- the pots so far, and those of the values that are left, are all of them
abbrev pub invariant-loop-index : goal.invariant-loop-index
invariant-loop-index l = record {
  seats : l.found.won.sums.seats ≡ length l.players.ids.now;
  read : add_left view (pot_added l.players.ids.now) (plain_found l.found) l.index l.values ≡ added_from (pot_added l.players.ids.now) no_pots 0 (map view l.values);
}
