-- One more line.
use Rattle.std.proofs.Common.{List, ℕ, ◌++◌, ◌∙◌, ap}
use Rattle.ohh_writing.specs.Lines.{empty_line_behind}
use Rattle.ohh_writing.proofs.Behind.{one_line_more}
use Rattle.ohh_writing.proofs.lines.push_line.Goals as goal

pub returns-clause-spells : goal.returns-clause-spells
returns-clause-spells c = λ before many spells.
    one_line_more c.args.dialect before c.args.play.now c.args.index c.args.out.now.items c.push_empty_line.new.out.items c.try_extend_from_slice.new.self.items c.try_push.new.self.items
    many spells
    (c.in_ok-push_empty_line.ensures.line ∙ ap (λ (l : List ℕ). l ++ empty_line_behind c.args.index) c.reserve_for.ensures.items)
    (c.in_ok-try_extend_from_slice.ensures.items ∙ ap (λ (l : List ℕ). c.push_empty_line.new.out.items ++ l) (c.as_slice-2.ensures.value ∙ c.in_ok-text.ensures.text))
    c.in_ok-try_push.ensures.items c.in_ok-text.ensures.read
