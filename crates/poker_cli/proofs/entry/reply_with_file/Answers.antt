-- The answer follows from the bytes of the file, or says that they exceed the limit.
use Rattle.std.proofs.Common.{IfOk, List, Option, ℕ, subst}
use Rattle.command_words.specs.Command.{command_in}
use Rattle.poker_cli.specs.Answer.{IsAnswer}
use Rattle.poker_cli.specs.OtherFile.{HasNoFile}
use Rattle.poker_cli.specs.Run.{OfBytes, OfFile}
use Rattle.poker_cli.specs.FaultAnswers.{answer_said}
use Rattle.poker_cli.specs.declared.other_file.NoFileError.{NoFileError}
use Rattle.poker_cli.proofs.OwnStatus.{of_command}
use Rattle.poker_cli.proofs.Replied.{keeps_read}
use Rattle.poker_cli.proofs.Replying.{beside_reply, is_there, kept_there, long_reply}
use Rattle.poker_cli.proofs.entry.reply_with_file.Goals as goal

pub returns-in-Ok-clause-answer : goal.returns-in-Ok-clause-answer
returns-in-Ok-clause-answer g c =
    let left = g.S.Source.left c.args.input.now in
    beside_reply (g.H.Shelf.files c.args.shelf.now) left c.args.name.now c.args.command c.in-Ok.file.items c.reply_with.result c.requires c.in-Ok.ensures.file
    (subst (λ (file : List ℕ). IfOk c.reply_with.result (λ answer. OfBytes left (λ bytes. IsAnswer (command_in file c.args.command) bytes (answer_said answer))))
    c.deref.ensures.value c.reply_with.ensures.answer)

pub returns-in_ok-answer_to_long_file-in-Err-TooLong-clause-answer : goal.returns-in_ok-answer_to_long_file-in-Err-TooLong-clause-answer
returns-in_ok-answer_to_long_file-in-Err-TooLong-clause-answer g c =
    let shown = g.H.Shelf.files c.args.shelf.now in
    long_reply shown (g.S.Source.left c.args.input.now) c.args.name.now (command_in c.args.name.now c.args.command)
    (answer_said c.in_ok-answer_to_long_file-in-Err-TooLong.field-0) c.requires
    (subst (λ (reason : NoFileError). OfFile shown c.args.name.now (λ (file : Option (List ℕ)). HasNoFile file reason)) c.in-Err-TooLong.field-0-is c.in-Err-TooLong.ensures.none)
    c.in_ok-answer_to_long_file-in-Err-TooLong.ensures

pub returns-in-Ok-clause-kept : goal.returns-in-Ok-clause-kept
returns-in-Ok-clause-kept g c =
    let read = c.reply_with.ensures in
    keeps_read _ _ _ _ c.reply_with.result (of_command (g.S.Source.left c.args.input.now) _ c.reply_with.result read.answer) read.read_fault read.read_alone

pub returns-in-Ok-clause-there : goal.returns-in-Ok-clause-there
returns-in-Ok-clause-there g c = λ fault. is_there (g.H.Shelf.files c.args.shelf.now) c.args.name.now c.in-Ok.file.items c.in-Ok.ensures.file

pub returns-in-Ok-clause-without_file : goal.returns-in-Ok-clause-without_file
returns-in-Ok-clause-without_file g c =
    kept_there (g.H.Shelf.files c.args.shelf.now) c.args.name.now c.in-Ok.file.items c.args.input.now c.reply_with.new.input c.in-Ok.ensures.file
