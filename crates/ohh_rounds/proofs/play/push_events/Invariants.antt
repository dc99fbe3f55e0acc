use Rattle.std.proofs.Common.{◌≡◌, ◌++◌, map, drop}
use Rattle.play_event.specs.Said.{numbered}
use Rattle.ohh_rounds.specs.Play.{events_in}
use Rattle.ohh_rounds.specs.Steps.{plain_step}
use Rattle.ohh_rounds.proofs.play.push_events.Given as goal

-- the events so far and those of the steps that are left are all of them
abbrev pub invariant-loop-step : goal.invariant-loop-step
invariant-loop-step l = map numbered l.script ++ events_in (map plain_step (drop l.step-index l.steps)) ≡ map numbered l.fn.script ++ events_in (map plain_step l.steps)
