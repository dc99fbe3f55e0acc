-- One more move.
use Rattle.std.proofs.Common.{sym}
use Rattle.acpc_format.proofs.Letters.{letter_next, may_add, no_letters, put_next}
use Rattle.acpc_format.proofs.betting.SpelledMoves.push_letters.Goals as goal

pub loop-played-init : goal.loop-played-init
loop-played-init c = record {
  put = c.posted_chips-put.ensures;
  written = no_letters c.args.self.now.no_limit c.args.self.now.setup.now c.args.street c.args.out.now.items;
}

pub add-requires : goal.add-requires
add-requires c =
    may_add c.args.self.now.setup.now c.loop-played.played-index c.args.self.now.moves.now c.played-item.result c.loop-played.put c.loop-played-test.true (sym c.played-item.is) c.args.self.now.few c.loop-played.invariant.put

pub loop-played-preserved : goal.loop-played-preserved
loop-played-preserved c =
    let has = c.add.ensures c.args.self.now.setup.now _ c.loop-played.invariant.put in
    record {
      put = put_next c.args.self.now.setup.now c.loop-played.played-index c.args.self.now.moves.now c.played-item.result c.add.new.put c.loop-played-test.true (sym c.played-item.is) has;
      written = letter_next c.args.self.now.no_limit c.args.self.now.setup.now c.args.street c.loop-played.played-index c.args.self.now.moves.now c.played-item.result c.add.new.put c.args.out.now.items c.loop-played.out.items c.push_letter_on.new.out.items c.loop-played-test.true (sym c.played-item.is)
          has c.loop-played.invariant.written c.in_ok-push_letter_on.ensures;
    }
