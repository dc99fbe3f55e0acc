-- The output is the game file of the first of all plays.
use Rattle.std.proofs.Common.{◌<◌, List, length, subst, sym, arith}
use Rattle.hand_canon.specs.declared.trace.Play.{Play}
use Rattle.poker_cli.specs.FaultAnswers.{answer_said}
use Rattle.poker_cli.specs.Game.{IsGameReply}
use Rattle.poker_cli.proofs.GameReplies.{first_of_all}
use Rattle.poker_cli.proofs.game.answer_with_first_game.Goals as goal

pub returns-in_ok-write_game-in-Ok : goal.returns-in_ok-write_game-in-Ok
returns-in_ok-write_game-in-Ok c =
    let plays = c.as_slice.result.now in
    let some : 0 < length plays = omega (arith, c.in-len1-up.len_at_least) in
    subst (λ (all : List Play). IsGameReply all (answer_said c.done_with_bytes-in-Ok.result)) c.as_slice.ensures.same (subst (IsGameReply plays) (sym c.done_with_bytes-in-Ok.ensures)
    (first_of_all plays c.play-item.result c.in-Ok.game _ some c.play-item.is c.in-Ok.ensures.game c.in_ok-write_game-in-Ok.ensures))
