-- More bytes than the limit are answered as such, and a command that reads no input is answered by
-- itself.
use Rattle.std.proofs.Common.{rules, ◌∙◌, ℕ, List, ap, subst, sym, Err}
use Rattle.command_words.specs.Command.{command_in}
use Rattle.poker_cli.specs.Answer.{IsAnswer}
use Rattle.poker_cli.specs.FaultAnswers.{answer_said}
use Rattle.poker_cli.proofs.Answering.{answer_beyond, answer_within}
use Rattle.poker_cli.proofs.entry.reply_with.Goals as goal

pub returns-in_ok-input_too_long-in-Err-TooLong-clause-answer : goal.returns-in_ok-input_too_long-in-Err-TooLong-clause-answer
returns-in_ok-input_too_long-in-Err-TooLong-clause-answer g c =
    answer_beyond (command_in c.args.file.now c.args.command) (g.S.Source.left c.args.input.now) (answer_said c.in_ok-input_too_long-in-Err-TooLong.field-0)
    (sym (c.reads_input.ensures c.args.file.now) ∙ search rules)
    (c.read_all.ensures.too_long (c.in-Err-TooLong.is ∙ ap (λ fault. Err fault) c.in-Err-TooLong.field-0-is)) c.in_ok-input_too_long-in-Err-TooLong.ensures

pub returns-in_ok-answer_to-in-Ok-clause-answer : goal.returns-in_ok-answer_to-in-Ok-clause-answer
returns-in_ok-answer_to-in-Ok-clause-answer g c =
    answer_within (command_in c.args.file.now c.args.command) (g.S.Source.left c.args.input.now) c.in-Ok.bytes.items (answer_said c.in_ok-answer_to-in-Ok.field-0)
    c.in-Ok.ensures.bytes
    (subst (λ (bytes : List ℕ). IsAnswer (command_in c.args.file.now c.args.command) bytes (answer_said c.in_ok-answer_to-in-Ok.field-0)) c.deref.ensures.value
    c.in_ok-answer_to-in-Ok.ensures)
