-- One more piece that the sink took makes a longer front of the bytes.
use Rattle.std.proofs.Common.{arith}
use Rattle.host_io.proofs.KnownBytes.{Appends-more}
use Rattle.host_io.proofs.sink.write_all.Goals as goal

pub loop-written-preserved : goal.loop-written-preserved
loop-written-preserved g c = record {
  within = omega (arith, c.in_ok-written.ensures.bound);
  front = Appends-more _ _ _ _ _ _ c.loop-written.invariant.front c.in_ok-written.ensures.bytes;
  uncalled = λ none. absurd (omega (arith, c.in_ok-written.ensures.some));
  later = omega (arith, c.loop-written.invariant.later, c.write.ensures.later);
}
