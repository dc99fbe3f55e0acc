use Rattle.std.proofs.Common.{take}
use Rattle.ohh_writing.specs.Lines.{Spells}
use Rattle.ohh_writing.proofs.lines.spell.Given as goal

-- the bytes so far spell the plays so far
abbrev pub invariant-loop-index : goal.invariant-loop-index
invariant-loop-index l = Spells l.dialect (take l.index l.plays) l.out.items
