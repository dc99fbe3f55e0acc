-- Each command is answered as its file says.
use Rattle.std.proofs.Common.{◌≡◌, ℕ, ◌≤◌, Some, List, length, IfOk, Result, refl, subst, sym}
use Rattle.std.proofs.lemmas.Result.{IfOk-weaker}
use Rattle.card_set.specs.declared.memory.Memory.{Memory}
use Rattle.command_words.specs.Command as commands
use Rattle.command_words.specs.Command.{Command, command_in, input_of}
use Rattle.command_words.specs.declared.command.Command as made_command
use Rattle.convert_core.specs.Formats.{HaveFault, SayRecords, start_lines}
use Rattle.convert_core.specs.declared.format.Format.{Format}
use Rattle.poker_cli.specs.Answer as answers
use Rattle.poker_cli.specs.Answer.{IsAnswer, IsAnswerBy, IsAnswerOf}
use Rattle.poker_cli.specs.AnswerParts.{most_input}
use Rattle.poker_cli.specs.FaultAnswers.{answer_said}
use Rattle.poker_cli.specs.declared.answer.Answer as made
use Rattle.poker_cli.proofs.answer.answer_to.Goals as goal

-- the answer to what is read is the answer to the command
by_reader : (command : Command Format) (reader : Format) (bytes : List ℕ) (result : Result made.Answer Memory) → input_of command ≡ Some reader
    → length bytes ≤ most_input
    → IfOk result (λ answer. IsAnswerOf command (SayRecords reader bytes) (HaveFault reader bytes) (start_lines reader bytes) (answer_said answer))
    → IfOk result (λ answer. IsAnswer command bytes (answer_said answer))
by_reader command reader bytes result input few is =
    IfOk-weaker result _ _
    (λ answer to. subst (λ input. IsAnswerBy input command bytes (answer_said answer)) (sym input) (answers.Read few (answer_said answer) to)) is

of_command : (file bytes : List ℕ) (command other : made_command.Command Format) (result : Result made.Answer Memory) → command ≡ other
    → IfOk result (λ answer. IsAnswer (command_in file other) bytes (answer_said answer))
    → IfOk result (λ answer. IsAnswer (command_in file command) bytes (answer_said answer))
of_command file bytes command other result same is =
    subst (λ (c : made_command.Command Format). IfOk result (λ answer. IsAnswer (command_in file c) bytes (answer_said answer))) (sym same) is

pub returns-in-Check : goal.returns-in-Check
returns-in-Check c =
    of_command c.args.file.now c.args.bytes.now c.args.command _ c.answer_with_check.result c.in-Check.is
    (by_reader (commands.Check c.in-Check.from) c.in-Check.from c.args.bytes.now c.answer_with_check.result refl c.requires c.answer_with_check.ensures)

pub returns-in-Replay : goal.returns-in-Replay
returns-in-Replay c =
    of_command c.args.file.now c.args.bytes.now c.args.command _ c.answer_with_replay.result c.in-Replay.is
    (by_reader (commands.Replay c.in-Replay.from) c.in-Replay.from c.args.bytes.now c.answer_with_replay.result refl c.requires c.answer_with_replay.ensures)

pub returns-in-Report : goal.returns-in-Report
returns-in-Report c =
    of_command c.args.file.now c.args.bytes.now c.args.command _ c.answer_with_report.result c.in-Report.is
    (by_reader (commands.Report c.in-Report.from) c.in-Report.from c.args.bytes.now c.answer_with_report.result refl c.requires c.answer_with_report.ensures)

pub returns-in-Session : goal.returns-in-Session
returns-in-Session c =
    of_command c.args.file.now c.args.bytes.now c.args.command _ c.answer_with_session.result c.in-Session.is
    (by_reader (commands.Session c.in-Session.from) c.in-Session.from c.args.bytes.now c.answer_with_session.result refl c.requires c.answer_with_session.ensures)

pub returns-in-Game : goal.returns-in-Game
returns-in-Game c =
    of_command c.args.file.now c.args.bytes.now c.args.command _ c.answer_with_game.result c.in-Game.is
    (by_reader (commands.Game c.in-Game.from) c.in-Game.from c.args.bytes.now c.answer_with_game.result refl c.requires c.answer_with_game.ensures)

pub returns-in-Options : goal.returns-in-Options
returns-in-Options c =
    of_command c.args.file.now c.args.bytes.now c.args.command _ c.answer_with_options.result c.in-Options.is
    (by_reader (commands.Options c.in-Options.from c.in-Options.hand c.in-Options.events) c.in-Options.from c.args.bytes.now c.answer_with_options.result refl c.requires c.answer_with_options.ensures)

pub returns-in-Equity : goal.returns-in-Equity
returns-in-Equity c =
    of_command c.args.file.now c.args.bytes.now c.args.command _ c.answer_with_equity.result c.in-Equity.is
    (by_reader (commands.Equity c.in-Equity.from c.in-Equity.hand c.in-Equity.street) c.in-Equity.from c.args.bytes.now c.answer_with_equity.result refl c.requires c.answer_with_equity.ensures)

pub returns-in-Judge : goal.returns-in-Judge
returns-in-Judge c =
    of_command c.args.file.now c.args.bytes.now c.args.command _ c.answer_with_verdicts.result c.in-Judge.is
    (by_reader (commands.Judge c.in-Judge.from c.in-Judge.lines) c.in-Judge.from c.args.bytes.now c.answer_with_verdicts.result refl c.requires c.answer_with_verdicts.ensures)

pub returns-in-Views : goal.returns-in-Views
returns-in-Views c =
    of_command c.args.file.now c.args.bytes.now c.args.command _ c.answer_with_messages.result c.in-Views.is
    (by_reader (commands.Views c.in-Views.from c.in-Views.seat) c.in-Views.from c.args.bytes.now c.answer_with_messages.result refl c.requires c.answer_with_messages.ensures)

pub returns-in-Each : goal.returns-in-Each
returns-in-Each c =
    of_command c.args.file.now c.args.bytes.now c.args.command _ c.answer_with_each.result c.in-Each.is
    (by_reader (commands.Each c.in-Each.from c.in-Each.question) c.in-Each.from c.args.bytes.now c.answer_with_each.result refl c.requires c.answer_with_each.ensures)

pub returns-in-Convert : goal.returns-in-Convert
returns-in-Convert c =
    of_command c.args.file.now c.args.bytes.now c.args.command _ c.answer_with_hands.result c.in-Convert.is
    (by_reader (commands.Convert c.in-Convert.from c.in-Convert.to c.in-Convert.keep) c.in-Convert.from c.args.bytes.now c.answer_with_hands.result refl c.requires c.answer_with_hands.ensures)

pub returns-in-Compare : goal.returns-in-Compare
returns-in-Compare c =
    of_command c.args.file.now c.args.bytes.now c.args.command _ c.answer_with_comparison.result c.in-Compare.is
    (by_reader (commands.Compare c.in-Compare.from c.in-Compare.other c.args.file.now c.in-Compare.notes) c.in-Compare.from c.args.bytes.now c.answer_with_comparison.result refl c.requires c.answer_with_comparison.ensures)

pub returns-in-Load : goal.returns-in-Load
returns-in-Load c =
    of_command c.args.file.now c.args.bytes.now c.args.command _ c.answer_to_load.result c.in-Load.is c.answer_to_load.ensures
