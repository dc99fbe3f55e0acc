use Rattle.std.proofs.Common.{◌≡◌, length}
use Rattle.acpc_game.specs.Parts.{lines_of}
use Rattle.acpc_game.specs.GameEntries.{says_no_limit}
use Rattle.acpc_game.proofs.lines.is_no_limit_file.Given as goal

-- no line so far says it
abbrev pub invariant-loop-line : goal.invariant-loop-line
invariant-loop-line l = says_no_limit (lines_of l.rest) ≡ says_no_limit (lines_of l.fn.bytes)

abbrev pub decreases-loop-line : goal.decreases-loop-line
decreases-loop-line l = length l.rest
