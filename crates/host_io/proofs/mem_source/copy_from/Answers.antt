-- The front of the buffer, and then the bytes after it, are the bytes from that place on.
use Rattle.std.proofs.Common.{ℕ, arith, length-take}
use Rattle.card_set.proofs.Lists.{front_and_rest}
use Rattle.host_io.proofs.mem_source.copy_from.Goals as goal

pub returns-clause-copied : goal.returns-clause-copied
returns-clause-copied c =
    front_and_rest c.args.bytes.now c.copy_from_slice.new.self _ c.args.start c.min-count.result c.copy_from_slice.ensures.after (omega (arith, c.copy_from_slice.ensures.len, c.min-count.ensures, length-take {A = ℕ}))
