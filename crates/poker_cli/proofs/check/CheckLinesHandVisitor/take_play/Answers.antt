-- The lines of one more hand.
use Rattle.std.proofs.Common.{◌++◌, ◌+◌, ap, string_bytes, ◌∙◌}
use Rattle.std.proofs.lemmas.Result.{on_ok_weaker}
use Rattle.hand_canon.specs.declared.trace.Play.{Play}
use Rattle.printed_hands.specs.Check.{check_line}
use Rattle.poker_cli.proofs.PrintedLines.{now_printed}
use Rattle.poker_cli.proofs.check.CheckLinesHandVisitor.take_play.Goals as goal

pub returns : goal.returns
returns c = λ start before counted printed.
    on_ok_weaker c.push_check_line.result
    (λ more. now_printed check_line (string_bytes c.args.self.now.text) (string_bytes c.push_check_line.new.text) c.args.place.index before c.args.judged.now printed counted
    (more ∙ ap (λ (play : Play). string_bytes c.args.self.now.text ++ check_line (c.args.place.index + 1) play) c.play.ensures.same))
    c.push_check_line.ensures
