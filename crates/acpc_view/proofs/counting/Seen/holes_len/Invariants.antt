-- The hole cards of the seats so far are counted.
use Rattle.std.proofs.Common.{◌≡◌, ◌≤◌, ◌*◌, length}
use Rattle.acpc_format.specs.Cards.{hole_text}
use Rattle.acpc_format.specs.Seats.{for_seats}
use Rattle.acpc_view.specs.Lengths.{seen_by}
use Rattle.acpc_view.proofs.counting.Seen.holes_len.Given as goal

abbrev pub invariant-loop-index : goal.invariant-loop-index
invariant-loop-index l = record {
  counted : l.all ≡ length (for_seats (hole_text (seen_by l.self.trace.now l.self.viewer.number l.self.count)) l.index);
  few : l.all ≤ 15 * l.index;
}
