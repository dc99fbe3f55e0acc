-- One more seat.
use Rattle.std.proofs.Common.{◌∙◌, length-set}
use Rattle.acpc_format.proofs.Posting.{posted_more}
use Rattle.acpc_format.proofs.puts.posted_chips.Goals as goal

pub loop-index-preserved : goal.loop-index-preserved
loop-index-preserved c = record {
  full = length-set c.loop-index.put c.loop-index.index c.posted.result ∙ c.loop-index.invariant.full;
  posted = posted_more c.args.setup.now c.loop-index.put c.loop-index.index c.posted.result c.loop-index.invariant.full c.loop-index-test.true c.posted.ensures c.loop-index.invariant.posted;
}
