-- The line of a refused hand.
use Rattle.std.proofs.Common.{ℕ, Option, ◌+◌, ◌++◌, refl, string_bytes, ap, ◌∙◌, codes}
use Rattle.std.specs.Fmt.{decimal}
use Rattle.convert_core.specs.FaultText.{refusal_text}
use Rattle.poker_cli.specs.Judge.{begins_text}
use Rattle.poker_cli.proofs.JudgedLines.{now_refused}
use Rattle.poker_cli.proofs.judge.VerdictLinesVerdictVisitor.refused.Goals as goal

pub returns : goal.returns
returns c = λ start before hand on counted refused printed.
    let old = string_bytes c.args.self.now.text in
    now_refused start.lines.items c.args.self.now.lines.items old (string_bytes c.push_refused.new.text) c.args.self.now.legal c.args.self.now.legal c.args.place.index
    before hand c.args.why.now printed counted
    (c.in_ok-push_refused.ensures
    ∙ ap (λ (line : Option ℕ). old ++ (codes "hand " ++ (decimal (c.args.place.index + 1) ++ (begins_text line ++ (codes ": " ++ (refusal_text c.args.why.now ++ codes "\n"))))))
    c.line_at-line.ensures)
    refl
