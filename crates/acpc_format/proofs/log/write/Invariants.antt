use Rattle.std.proofs.Common.{◌≡◌, ◌++◌, drop, take}
use Rattle.std.specs.List.{AllByRecursion}
use Rattle.acpc_format.specs.Line.{lines_from, log_text}
use Rattle.acpc_format.specs.Texts.{HasTexts}
use Rattle.acpc_format.proofs.log.write.Given as goal

-- what is written and the plays to come are all lines, and the names of the plays so far are texts
abbrev pub invariant-loop-index : goal.invariant-loop-index
invariant-loop-index l = record {
  written : l.out.items ++ lines_from l.game.no_limit l.index (drop l.index l.plays) ≡ log_text l.game.no_limit l.plays;
  texts : AllByRecursion HasTexts (take l.index l.plays);
}
