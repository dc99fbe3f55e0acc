-- The number of one more line that is a hand, and those of all lines at the end.
use Rattle.std.proofs.Common.{◌+◌, ◌++◌, List, ℕ, ap, append-nil, arith, sym, ◌∙◌}
use Rattle.acpc_game.specs.Parts.{lines_of}
use Rattle.acpc_reading.specs.Begins.{hand_lines_from}
use Rattle.acpc_reading.proofs.begins.find_hand_lines.Goals as goal

pub loop-line-preserved : goal.loop-line-preserved
loop-line-preserved c =
    let inv = c.loop-line.invariant in
    let left = λ (texts : List (List ℕ)). c.loop-line.lines.items ++ hand_lines_from (c.loop-line.count + 1) texts in
    record {
      few = omega (arith, inv.few, c.in-Some.ensures.shorter);
      read = c.in_ok-take_line.ensures (lines_of c.in-Some.behind.now) ∙ sym (ap left c.in-Some.ensures.lines) ∙ inv.read;
    }

pub returns : goal.returns
returns c =
    let left = λ (texts : List (List ℕ)). c.loop-line.lines.items ++ hand_lines_from (c.loop-line.count + 1) texts in
    sym (append-nil c.loop-line.lines.items) ∙ sym (ap left c.in_default.ensures.lines) ∙ c.loop-line.invariant.read
