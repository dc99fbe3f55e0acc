use Rattle.std.proofs.Common.{◌<◌, ◌∙◌, refl, arith, length}
use Rattle.std.proofs.lemmas.List.{drop-drop}
use Rattle.ohh_reading.proofs.Lines.{first_line, last_line, most_len}
use Rattle.ohh_reading.proofs.blocks.cut_line.Goals as goal

pub returns-then-len-text-clause-lines : goal.returns-then-len-text-clause-lines
returns-then-len-text-clause-lines c = last_line c.args.text.now (omega (arith, c.line_len-len.ensures, c.if-len-text.true))

pub split_at-requires : goal.split_at-requires
split_at-requires c = omega (arith, c.line_len-len.ensures, most_len c.args.text.now)

pub returns-clause-lines : goal.returns-clause-lines
returns-clause-lines c =
    let len = c.line_len-len.result in
    let inside : len < length c.args.text.now = omega (arith, c.line_len-len.ensures, most_len c.args.text.now, c.if-len-text.false) in
    first_line len c.args.text.now c.line_len-len.ensures inside
    ∙ rw (c.split_at.ensures.front, c.split_at-2.ensures.back, c.split_at.ensures.back, drop-drop 1 len c.args.text.now) refl
