use Rattle.std.proofs.Common.{◌≡◌, ◌+◌, map, drop}
use Rattle.toml.specs.View.{view}
use Rattle.play_event.specs.Said.{numbered}
use Rattle.first_fault.specs.Reading.{thread_from}
use Rattle.first_fault.proofs.Thread.{behind}
use Rattle.phh_reading.specs.Events.{AreCounted, AreFew, counts_after, event_said, events_said}
use Rattle.phh_reading.proofs.events.read_events.Given as goal

-- the events so far and those of the actions that are left are all of them
abbrev pub invariant-loop-index : goal.invariant-loop-index
invariant-loop-index l = record {
  few : AreFew l.counts;
  counted : AreCounted l.file_moves l.script l.counts;
  read : behind (map numbered l.script) (thread_from (event_said l.players.number) l.counts (l.index + 1) (map view (drop l.index l.actions))) ≡ events_said l.players.number (counts_after l.file_moves) (map view l.actions);
}
