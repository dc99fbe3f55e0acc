-- The lines of all hands, and the last line.
use Rattle.std.proofs.Common.{string_bytes}
use Rattle.printed_hands.specs.Check.{check_line}
use Rattle.poker_cli.proofs.PrintedLines.{check_is, none_printed}
use Rattle.poker_cli.proofs.check.check_text.Goals as goal

pub take_plays-requires : goal.take_plays-requires
take_plays-requires c = none_printed check_line (string_bytes c.new.result) c.new.ensures.bytes

pub returns-clause-said : goal.returns-clause-said
returns-clause-said c =
    check_is c.args.records c.len-hands.result (string_bytes c.in_ok-lines.lines.text) (string_bytes c.push_check_end.new.text)
    c.in_ok-lines.ensures.taken c.len-hands.ensures.count c.in_ok-push_check_end.ensures
