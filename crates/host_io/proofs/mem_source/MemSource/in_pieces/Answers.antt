-- A new source has given nothing.
use Rattle.std.proofs.Common.{rules, refl}
use Rattle.host_io.proofs.mem_source.MemSource.in_pieces.Goals as goal

pub returns : goal.returns
returns c = record {
  left = refl;
  piece = refl;
  plan = search rules;
}
