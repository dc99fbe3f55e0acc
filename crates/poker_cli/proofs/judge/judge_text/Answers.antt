-- The lines of all verdicts, and the last line.
use Rattle.std.proofs.Common.{string_bytes}
use Rattle.poker_cli.proofs.JudgedLines.{all_printed, none_printed}
use Rattle.poker_cli.proofs.judge.judge_text.Goals as goal

pub judge_all-requires : goal.judge_all-requires
judge_all-requires c = none_printed c.args.lines.items (string_bytes c.new.result) c.new.ensures.bytes

pub returns : goal.returns
returns c =
    all_printed c.args.lines.items _ c.args.records _ c.len-hands.result c.judge_all.new.visitor.legal c.in-Ok.field-0.items (string_bytes c.judge_all.new.visitor.text) (string_bytes c.push_end.new.text)
    c.in-Ok.ensures.taken c.len-hands.ensures.count c.in_ok-push_end.ensures
