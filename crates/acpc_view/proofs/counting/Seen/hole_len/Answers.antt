-- The hole cards of a seat count if they are seen.
use Rattle.std.proofs.Common.{List, Some, length, map, sym, ap, ◌∙◌, arith}
use Rattle.play_event.specs.CanonScript.{dealt_slots}
use Rattle.hand_canon.specs.TraceRows.{core_said, place_said}
use Rattle.play_event.specs.declared.played.Place.{Place}
use Rattle.acpc_view.specs.Lengths.{hole_of}
use Rattle.acpc_view.proofs.LineLengths.{hole_seen, hole_unseen}
use Rattle.acpc_view.proofs.counting.Seen.hole_len.Goals as goal

pub returns-then-sees_seat_of : goal.returns-then-sees_seat_of
returns-then-sees_seat_of c =
    record {
      value =
          hole_seen (core_said c.args.self.now.trace.now) c.args.self.now.viewer.number c.args.self.now.count c.args.seat.number c.known_len.result (sym c.sees_seat_of.ensures ∙ c.if-sees_seat_of.true)
          (c.known_len.ensures.value ∙ ap (λ (places : List Place). length (hole_of (dealt_slots (map place_said places) (Some c.args.seat.number) 1))) c.as_slice.ensures);
      few = omega arith;
    }

pub returns-else-sees_seat_of : goal.returns-else-sees_seat_of
returns-else-sees_seat_of c =
    record {
      value =
          hole_unseen (core_said c.args.self.now.trace.now) c.args.self.now.viewer.number c.args.self.now.count c.args.seat.number (sym c.sees_seat_of.ensures ∙ c.if-sees_seat_of.false);
      few = omega arith;
    }
