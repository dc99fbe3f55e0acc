-- A call that finds too many bytes has taken one more than it may give.
use Rattle.std.proofs.Common.{ℕ, arith, length-append, length-take}
use Rattle.std.proofs.KnownBytes.{Consumes-trans}
use Rattle.host_io.proofs.KnownBytes.{Loses-from_taken, LosesAtMost-from_taken}
use Rattle.host_io.proofs.source.read_all.Goals as goal

pub returns-in-Ok-2-clause-taken_too_long : goal.returns-in-Ok-2-clause-taken_too_long
returns-in-Ok-2-clause-taken_too_long g c =
    let taken = Consumes-trans _ _ _ _ _ c.loop-all.invariant.taken c.in-Ok-2.ensures.bytes.0 in
    λ _. Loses-from_taken _ _ _ _ taken (omega (arith, length-append {A = ℕ}, length-take {A = ℕ}, c.read.auto.buf, c.loop-all.all.ok.0, c.in-Ok-2.ensures.bound.1))

pub returns-in-Ok-2-clause-taken : goal.returns-in-Ok-2-clause-taken
returns-in-Ok-2-clause-taken g c =
    let taken = Consumes-trans _ _ _ _ _ c.loop-all.invariant.taken c.in-Ok-2.ensures.bytes.0 in
    LosesAtMost-from_taken _ _ _ _ taken (omega (arith, length-append {A = ℕ}, length-take {A = ℕ}, c.read.auto.buf, c.loop-all.all.ok.0, c.in-Ok-2.ensures.bound.1))
