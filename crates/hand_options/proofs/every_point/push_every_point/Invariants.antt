-- The options so far come after the text.
use Rattle.std.proofs.Common.{string_bytes}
use Rattle.hand_options.specs.EveryPoint.{HasOptionTexts}
use Rattle.hand_options.proofs.every_point.push_every_point.Given as goal

abbrev pub invariant-loop-point : goal.invariant-loop-point
invariant-loop-point l = HasOptionTexts l.number l.hand l.point (string_bytes l.initial.text) (string_bytes l.text)
