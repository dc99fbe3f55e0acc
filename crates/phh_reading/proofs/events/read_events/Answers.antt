use Rattle.std.proofs.Common.{map, sym}
use Rattle.std.proofs.lemmas.Result.{err_from_is_err_and}
use Rattle.toml.specs.View.{view}
use Rattle.play_event.specs.Said.{numbered}
use Rattle.first_fault.proofs.Thread.{threads_on, thread_ends, thread_done}
use Rattle.phh_reading.specs.Events.{counts_after, event_said, events_said, listed_event}
use Rattle.phh_reading.proofs.Counting.{counted_after}
use Rattle.phh_reading.proofs.events.read_events.Goals as goal

pub returns-in_err-event-clause-said : goal.returns-in_err-event-clause-said
returns-in_err-event-clause-said c =
    let p = err_from_is_err_and c.from_residual.result c.from_residual.ensures.1 in
    rw (p.1, p.2) (thread_ends view (event_said c.args.players.number) c.in_err-event.field-0.0 (map numbered c.loop-index.script) c.loop-index.counts c.args.actions.now c.loop-index.index c.index-actions-index.result (events_said c.args.players.number (counts_after c.args.file_moves) (map view c.args.actions.now)) c.loop-index-test.true (sym c.index-actions-index.is) c.in_err-event.ensures.said c.loop-index.invariant.read)

pub loop-index-preserved : goal.loop-index-preserved
loop-index-preserved c =
    record {
      few = c.in_ok-event.ensures.few c.loop-index.invariant.few;
      counted = counted_after c.args.file_moves c.loop-index.script c.push_if.new.script c.loop-index.counts c.in_ok-event.next c.in_ok-event.event c.in_ok-push_if.ensures.events c.loop-index.invariant.counted c.in_ok-event.ensures.after;
      read = rw c.in_ok-push_if.ensures.numbered (threads_on view (event_said c.args.players.number) (map numbered c.loop-index.script) c.loop-index.counts c.in_ok-event.next c.args.actions.now c.loop-index.index c.index-actions-index.result (listed_event c.in_ok-event.event) (events_said c.args.players.number (counts_after c.args.file_moves) (map view c.args.actions.now)) c.loop-index-test.true (sym c.index-actions-index.is) c.in_ok-event.ensures.said c.loop-index.invariant.read);
    }

pub returns-clause-said : goal.returns-clause-said
returns-clause-said c = thread_done view (event_said c.args.players.number) (map numbered c.loop-index.script) c.loop-index.counts c.args.actions.now c.loop-index.index (events_said c.args.players.number (counts_after c.args.file_moves) (map view c.args.actions.now)) c.loop-index-test.false c.loop-index.invariant.read
