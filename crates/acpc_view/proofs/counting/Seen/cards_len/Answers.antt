-- The cards are the hole cards and the three boards.
use Rattle.std.proofs.Common.{arith}
use Rattle.acpc_view.specs.Lengths.{seen_by}
use Rattle.acpc_view.proofs.LineLengths.{cards_sum}
use Rattle.acpc_view.proofs.counting.Seen.cards_len.Goals as goal

pub returns : goal.returns
returns c =
    record {
      value =
          cards_sum (seen_by c.args.self.now.trace.now c.args.self.now.viewer.number c.args.self.now.count) c.args.self.now.trace.now.setup.stacks.seats c.holes_len.result c.board_len.result c.board_len-2.result c.board_len-3.result
          c.holes_len.ensures.value c.board_len.ensures.value c.board_len-2.ensures.value c.board_len-3.ensures.value;
      few = omega arith;
    }
