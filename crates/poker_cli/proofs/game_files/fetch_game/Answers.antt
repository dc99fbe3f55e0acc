-- What is read of the game file holds of the file that the shelf answered with.
use Rattle.std.proofs.lemmas.Result.{IfErr-weaker, IfOk-weaker}
use Rattle.poker_cli.specs.AnswerParts.{most_input}
use Rattle.poker_cli.specs.GameFiles.{GivesGame, HasNoGame}
use Rattle.poker_cli.proofs.FilesTold.{by_answer}
use Rattle.poker_cli.proofs.game_files.fetch_game.Goals as goal

pub returns-clause-game : goal.returns-clause-game
returns-clause-game g c =
    IfOk-weaker c.game_fetched.result _ _
    (λ game gives.
    by_answer (g.H.Shelf.files c.args.shelf.now) c.args.name.now most_input c.in_ok-fetched.fetched (λ file. GivesGame file game) c.in_ok-fetched.ensures.answer
    c.in_ok-fetched.ensures.within gives) c.game_fetched.ensures.game

pub returns-clause-none : goal.returns-clause-none
returns-clause-none g c =
    IfErr-weaker c.game_fetched.result _ _
    (λ reason none.
    by_answer (g.H.Shelf.files c.args.shelf.now) c.args.name.now most_input c.in_ok-fetched.fetched (λ file. HasNoGame file reason) c.in_ok-fetched.ensures.answer
    c.in_ok-fetched.ensures.within none) c.game_fetched.ensures.none
