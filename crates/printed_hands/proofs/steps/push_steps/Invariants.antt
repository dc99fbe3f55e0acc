-- The events so far are printed, and there are no more of them than are asked for.
use Rattle.std.proofs.Common.{◌≤◌, length, string_bytes}
use Rattle.printed_hands.proofs.Printed.{ArePrinted}
use Rattle.printed_hands.proofs.steps.push_steps.Given as goal

abbrev pub decreases-loop-event : goal.decreases-loop-event
decreases-loop-event l = length l.cursor

abbrev pub invariant-loop-event : goal.invariant-loop-event
invariant-loop-event l =
    record {
      few : l.number ≤ l.events;
      printed : ArePrinted l.hand l.number l.made l.put l.cursor (string_bytes l.initial.text) (string_bytes l.text);
    }
