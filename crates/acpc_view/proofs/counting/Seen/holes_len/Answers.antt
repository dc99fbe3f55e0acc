-- One more seat.
use Rattle.std.proofs.Common.{◌≡◌, ℕ, length, ap, ◌∙◌, arith}
use Rattle.acpc_format.specs.Cards.{hole_text, holes_text}
use Rattle.acpc_format.specs.Seats.{for_seats}
use Rattle.acpc_view.specs.Lengths.{seen_by}
use Rattle.acpc_view.proofs.LineLengths.{seat_sum}
use Rattle.acpc_view.proofs.counting.Seen.holes_len.Goals as goal

pub loop-index-preserved : goal.loop-index-preserved
loop-index-preserved c = record {
  counted = seat_sum (hole_text (seen_by c.args.self.now.trace.now c.args.self.now.viewer.number c.args.self.now.count)) c.loop-index.index c.loop-index.all c.seat_len-all.result c.loop-index.invariant.counted c.seat_len-all.ensures.value;
  few = omega (arith, c.loop-index.invariant.few, c.seat_len-all.ensures.few);
}

pub returns : goal.returns
unfolding holes_text
returns c =
    let all : c.loop-index.index ≡ c.args.self.now.trace.now.setup.stacks.seats = omega (arith, c.loop-index-test.false) in
    record {
      value =
          c.loop-index.invariant.counted ∙ ap (λ (n : ℕ). length (for_seats (hole_text (seen_by c.args.self.now.trace.now c.args.self.now.viewer.number c.args.self.now.count)) n)) all;
      few = omega arith;
    }
