-- The events so far were played, and those that are left come after them.
use Rattle.std.proofs.Common.{◌≡◌, ◌≤◌, length, drop}
use Rattle.replay_core.proofs.SoFar.{IsPlayedTo}
use Rattle.replay_core.proofs.playing.play_events.Given as goal

abbrev pub invariant-loop-event : goal.invariant-loop-event
invariant-loop-event g l =
    let first = l.initial.hand.betting in
    let b = l.hand.betting in
    record {
      left : l.cursor ≡ drop l.count l.script;
      within : l.count ≤ length l.script;
      played : IsPlayedTo first.setup first.rules l.script l.count b l.hand.cards l.moves;
      setup : b.setup ≡ first.setup;
      rules : b.rules ≡ first.rules;
    }

abbrev pub decreases-loop-event : goal.decreases-loop-event
decreases-loop-event g l = length l.cursor
