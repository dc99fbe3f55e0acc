-- A command without another file is answered by the input alone.
use Rattle.std.proofs.Common.{rules, sym, ◌∙◌}
use Rattle.poker_cli.proofs.OwnStatus.{of_command}
use Rattle.poker_cli.proofs.Replied.{keeps_read}
use Rattle.poker_cli.proofs.Replying.{answer_alone, none_beside}
use Rattle.poker_cli.proofs.entry.reply_beside.Goals as goal

pub returns-then-reads_file-clause-none : goal.returns-then-reads_file-clause-none
returns-then-reads_file-clause-none g c =
    let beside = c.reply_with_file.ensures in
    none_beside (g.H.Shelf.files c.args.shelf.now) (g.S.Source.left c.args.input.now) c.args.command c.args.name.now
    (sym (c.reads_file.ensures c.args.name.now) ∙ search rules) c.reply_with_file.result beside.there beside.of_file beside.missing

pub returns-else-reads_file-clause-answer : goal.returns-else-reads_file-clause-answer
returns-else-reads_file-clause-answer g c =
    answer_alone (g.H.Shelf.files c.args.shelf.now) (g.S.Source.left c.args.input.now) c.args.command c.args.name.now
    (sym (c.reads_file.ensures c.args.name.now) ∙ search rules) c.reply_with.result c.reply_with.ensures.answer

pub returns-else-reads_file-clause-kept : goal.returns-else-reads_file-clause-kept
returns-else-reads_file-clause-kept g c =
    let read = c.reply_with.ensures in
    keeps_read _ _ _ _ c.reply_with.result (of_command (g.S.Source.left c.args.input.now) _ c.reply_with.result read.answer) read.read_fault read.read_alone
