use Rattle.std.proofs.Common.{◌≡◌, map}
use Rattle.serde_json.specs.View.{view}
use Rattle.ohh_reading.specs.Pots.{win_added, wins_said}
use Rattle.ohh_reading.specs.Won.{plain_win}
use Rattle.first_fault.proofs.Added.{add_left}
use Rattle.ohh_reading.proofs.pots.read_wins.Given as goal

-- the wins so far, and those of the values that are left, are all of them
abbrev pub invariant-loop-place : goal.invariant-loop-place
invariant-loop-place l = record {
  seats : l.after.sums.seats ≡ l.fn.won.sums.seats;
  read : add_left view (win_added l.players.ids.now l.index) (map plain_win l.after.list.items) l.place l.values ≡ wins_said l.players.ids.now l.index (map plain_win l.fn.won.list.items) (view l.pot);
}
