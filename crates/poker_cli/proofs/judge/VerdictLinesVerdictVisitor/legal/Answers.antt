-- The line of a legal hand.
use Rattle.std.proofs.Common.{◌∙◌, ap, codes, refl, string_bytes, ◌+◌, ◌++◌, ℕ, Option, arith}
use Rattle.std.specs.Fmt.{decimal}
use Rattle.poker_cli.specs.Judge.{begins_text}
use Rattle.poker_cli.proofs.JudgedLines.{legal_few, now_legal}
use Rattle.poker_cli.proofs.judge.VerdictLinesVerdictVisitor.legal.Goals as goal

pub overflow_add-self : goal.overflow_add-self
overflow_add-self c = omega (arith, c.args.place.within, c.requires.1.counted, c.requires.1.took.counted, legal_few c.requires.1.verdicts)

pub returns : goal.returns
returns c = λ start before counted legal printed.
    let old = string_bytes c.args.self.now.text in
    now_legal start.lines.items c.args.self.now.lines.items old (string_bytes c.push_legal.new.text) c.args.self.now.legal (c.args.self.now.legal + 1) c.args.place.index
    before c.args.arg4.now printed counted
    (c.in_ok-push_legal.ensures ∙ ap (λ (line : Option ℕ). old ++ (codes "hand " ++ (decimal (c.args.place.index + 1) ++ (begins_text line ++ codes ": legal\n")))) c.line_at-line.ensures)
    refl
