use Rattle.std.proofs.Common.{◌≡◌, ◌+◌, ◌≤◌, drop, map}
use Rattle.play_event.specs.Said.{numbered}
use Rattle.acpc_reading.specs.Cards.{dealt, steps_after}
use Rattle.acpc_reading.specs.Left.{parts_left}
use Rattle.acpc_reading.specs.Scripts.{written_by}
use Rattle.acpc_reading.proofs.script.take_steps.Given as goal

-- the events so far and those of the steps that are left are all of them
abbrev pub invariant-loop-step : goal.invariant-loop-step
invariant-loop-step l = record {
  few : l.pending.number ≤ 1 + l.step-index;
  small : l.pending.size ≤ 7;
  read : steps_after l.at (written_by l.script l.pending) (drop l.step-index l.steps) ≡ steps_after l.at (dealt (map numbered l.fn.script) (parts_left 47 l.fn.boards)) l.steps;
}
