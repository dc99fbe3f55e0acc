-- A command is answered by its files, with a game or without one.
use Rattle.std.proofs.Common.{IfOk, subst, sym}
use Rattle.command_words.specs.Command.{command_in}
use Rattle.command_words.specs.Requests.{request_in}
use Rattle.command_words.specs.declared.request.Request.{Request}
use Rattle.poker_cli.specs.Answer.{IsAnswerIn}
use Rattle.poker_cli.specs.FaultAnswers.{answer_said}
use Rattle.poker_cli.specs.Run.{WhereShown}
use Rattle.poker_cli.proofs.Replying.{plain_answer}
use Rattle.poker_cli.proofs.entry.reply.Goals as goal

pub returns-in-Plain-clause-answer : goal.returns-in-Plain-clause-answer
returns-in-Plain-clause-answer g c =
    subst
    (λ (request : Request). IfOk c.reply_beside.result (λ answer. WhereShown (request_in request) (g.S.Source.left c.args.input.now) (g.H.Shelf.files c.args.shelf.now)
    (λ files bytes. IsAnswerIn (request_in request) files bytes (answer_said answer))))
    (sym c.in-Plain.is)
    (plain_answer (g.H.Shelf.files c.args.shelf.now) (g.S.Source.left c.args.input.now) (command_in c.in-Plain.file.now c.in-Plain.command) _ c.reply_beside.result
    (c.to_plain_formats.ensures c.in-Plain.file.now) c.reply_beside.ensures.answer)

pub returns-in-Under-clause-answer : goal.returns-in-Under-clause-answer
returns-in-Under-clause-answer g c =
    subst
    (λ (request : Request). IfOk c.reply_under.result (λ answer. WhereShown (request_in request) (g.S.Source.left c.args.input.now) (g.H.Shelf.files c.args.shelf.now)
    (λ files bytes. IsAnswerIn (request_in request) files bytes (answer_said answer))))
    (sym c.in-Under.is) c.reply_under.ensures.answer
