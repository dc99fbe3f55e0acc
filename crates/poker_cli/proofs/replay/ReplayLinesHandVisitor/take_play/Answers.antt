-- The lines of one more hand.
use Rattle.std.proofs.Common.{◌++◌, ◌+◌, ap, string_bytes, ◌∙◌}
use Rattle.std.proofs.lemmas.Result.{on_ok_weaker}
use Rattle.hand_canon.specs.declared.trace.Play.{Play}
use Rattle.printed_hands.specs.Steps.{replay_lines}
use Rattle.poker_cli.proofs.PrintedLines.{now_printed}
use Rattle.poker_cli.proofs.replay.ReplayLinesHandVisitor.take_play.Goals as goal

pub returns : goal.returns
returns c = λ start before counted printed.
    on_ok_weaker c.push_replay_lines.result
    (λ more. now_printed replay_lines (string_bytes c.args.self.now.text) (string_bytes c.push_replay_lines.new.text) c.args.place.index before c.args.judged.now printed counted
    (more ∙ ap (λ (play : Play). string_bytes c.args.self.now.text ++ replay_lines (c.args.place.index + 1) play) (c.new-play.ensures ∙ c.play.ensures.same)))
    c.push_replay_lines.ensures
