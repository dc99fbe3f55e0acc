-- A new sink holds nothing, and its room is all left.
use Rattle.std.proofs.Common.{rules, refl, arith}
use Rattle.std.proofs.lemmas.Grind.{common_steps}
use Rattle.host_io.proofs.mem_sink.MemSink.in_pieces.Goals as goal

pub returns : goal.returns
returns c = record {
  held = grind (arith, common_steps);
  room = grind (arith, common_steps);
  piece = refl;
  plan = search rules;
}
