-- If logs are under a game, the answer is by the game in its file, or what is wrong with the file
-- is reported.
use Rattle.std.proofs.Common.{◌≡◌, ℕ, List, Option, subst}
use Rattle.command_words.specs.Requests.{log_command_in}
use Rattle.poker_cli.specs.FaultAnswers.{answer_said}
use Rattle.poker_cli.specs.GameFiles.{HasNoGame, IsGameFileErrorAnswer}
use Rattle.poker_cli.specs.Run.{OfFile}
use Rattle.poker_cli.specs.declared.game_files.GameFileError.{GameFileError}
use Rattle.poker_cli.specs.declared.game_files.NoGameError.{NoGameError}
use Rattle.poker_cli.proofs.Replying.{game_file_error_reply, game_not_there, under_answer, under_asks, under_lacks, under_none}
use Rattle.poker_cli.proofs.entry.reply_under.Goals as goal

pub returns-in-Ok-clause-answer : goal.returns-in-Ok-clause-answer
returns-in-Ok-clause-answer g c =
    under_answer (g.H.Shelf.files c.args.shelf.now) (g.H.Shelf.files c.fetch_game.new.shelf) (g.S.Source.left c.args.input.now) c.args.log.game.now
    (log_command_in c.args.log) _ c.in-Ok.game c.in-Ok.ensures.unchanged (c.to_formats_under-command.ensures c.args.log.file.now) c.in-Ok.ensures.game
    c.reply_beside.result c.reply_beside.ensures.answer

pub returns-in-Ok-clause-none : goal.returns-in-Ok-clause-none
returns-in-Ok-clause-none g c =
    under_none (g.H.Shelf.files c.args.shelf.now) (g.H.Shelf.files c.fetch_game.new.shelf) (g.S.Source.left c.args.input.now) c.args.log.game.now
    (log_command_in c.args.log) _ c.in-Ok.game c.in-Ok.ensures.unchanged (c.to_formats_under-command.ensures c.args.log.file.now) c.in-Ok.ensures.game
    c.reply_beside.result c.reply_beside.ensures.none

pub returns-in-Ok-clause-asks : goal.returns-in-Ok-clause-asks
returns-in-Ok-clause-asks g c =
    under_asks (g.H.Shelf.files c.args.shelf.now) (g.H.Shelf.files c.fetch_game.new.shelf) (g.S.Source.left c.args.input.now) c.args.log.game.now
    (log_command_in c.args.log) _ c.in-Ok.game c.in-Ok.ensures.unchanged (c.to_formats_under-command.ensures c.args.log.file.now) c.in-Ok.ensures.game
    g.H.Shelf.Asked c.args.shelf.now c.fetch_game.new.shelf c.reply_beside.new.shelf c.in-Ok.ensures.asked c.reply_beside.ensures.asks

pub returns-in-Ok-clause-without_file : goal.returns-in-Ok-clause-without_file
returns-in-Ok-clause-without_file g c =
    under_lacks (g.H.Shelf.files c.args.shelf.now) (g.H.Shelf.files c.fetch_game.new.shelf) (g.S.Source.left c.args.input.now) c.args.log.game.now
    (log_command_in c.args.log) _ c.in-Ok.game c.in-Ok.ensures.unchanged (c.to_formats_under-command.ensures c.args.log.file.now) c.in-Ok.ensures.game
    (c.reply_beside.new.input ≡ c.args.input.now) c.reply_beside.ensures.without_file

pub returns-in_ok-game_file_answer-in-Err-Lacking-clause-answer : goal.returns-in_ok-game_file_answer-in-Err-Lacking-clause-answer
returns-in_ok-game_file_answer-in-Err-Lacking-clause-answer g c =
    let shown = g.H.Shelf.files c.args.shelf.now in
    game_file_error_reply shown (g.S.Source.left c.args.input.now) c.args.log.game.now (log_command_in c.args.log) c.in-Err-Lacking.lack
    (answer_said c.in_ok-game_file_answer-in-Err-Lacking.field-0)
    (subst (λ (reason : NoGameError). OfFile shown c.args.log.game.now (λ (file : Option (List ℕ)). HasNoGame file reason)) c.in-Err-Lacking.field-0-is c.in-Err-Lacking.ensures.none)
    (subst (λ (lack : GameFileError). IsGameFileErrorAnswer lack (answer_said c.in_ok-game_file_answer-in-Err-Lacking.field-0)) c.in-Err-Lacking.lack-is c.in_ok-game_file_answer-in-Err-Lacking.ensures)

pub returns-in-Err-Missing-clause-none : goal.returns-in-Err-Missing-clause-none
returns-in-Err-Missing-clause-none g c =
    let shown = g.H.Shelf.files c.args.shelf.now in
    game_not_there shown (g.S.Source.left c.args.input.now) c.args.log.game.now (log_command_in c.args.log)
    (subst (λ (reason : NoGameError). OfFile shown c.args.log.game.now (λ (file : Option (List ℕ)). HasNoGame file reason)) c.in-Err-Missing.field-0-is c.in-Err-Missing.ensures.none)
