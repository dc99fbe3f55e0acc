-- The betting, a colon, and the cards.
use Rattle.std.proofs.Common.{arith}
use Rattle.acpc_view.proofs.LineLengths.{seen_sum}
use Rattle.acpc_view.proofs.counting.Seen.seen_len.Goals as goal

pub returns : goal.returns
returns c =
    record {
      value =
          seen_sum c.args.no_limit c.args.self.now.trace.now c.args.self.now.viewer.number c.args.self.now.count c.betting_len.result c.cards_len.result c.betting_len.ensures.value c.cards_len.ensures.value;
      few = omega arith;
    }
