-- What was read so far is within max, and is what the source gave.
use Rattle.std.proofs.Common.{◌≤◌, ◌-◌, length}
use Rattle.std.specs.Io.KnownBytes.{Consumes}
use Rattle.host_io.proofs.source.read_all.Given as goal

abbrev pub invariant-loop-all : goal.invariant-loop-all
invariant-loop-all g l = record {
  within : length l.all.items ≤ l.max;
  taken : Consumes (g.S.Source.left l.initial.source) (g.S.Source.left l.source) l.all.items;
  later : g.S.Source.faults l.initial.source ≤ g.S.Source.faults l.source;
}

abbrev pub decreases-loop-all : goal.decreases-loop-all
decreases-loop-all g l = l.max - length l.all.items
