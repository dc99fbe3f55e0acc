-- Before the first hand the lines are kept if the game has the seat; at the end they are the
-- output, or the answer says why not.
use Rattle.std.proofs.Common.{refl, subst}
use Rattle.acpc_game.specs.declared.game.Game.{Game}
use Rattle.chip_ledger.specs.declared.numbers.Seat.{Seat}
use Rattle.poker_cli.specs.Views.{AreViews}
use Rattle.poker_cli.specs.FaultAnswers.{answer_said}
use Rattle.poker_cli.proofs.SeenViews.{none_seen}
use Rattle.poker_cli.proofs.views.views_of.Goals as goal

pub take_plays-requires : goal.take_plays-requires
take_plays-requires c = (refl, refl, none_seen c.args.game.now c.args.seat c.has_seat.result _ c.has_seat.ensures c.new.ensures.items)

pub returns-clause-answer : goal.returns-clause-answer
returns-clause-answer c =
    let taken = c.in_ok-seen.ensures.taken in
    let seen = c.in_ok-seen.seen in
    let answer = answer_said c.in_ok-answer_with_seen.field-0 in
    record {
      plays = taken.plays;
      are = taken.are;
      said =
          subst (λ (game : Game). AreViews game c.args.seat taken.plays answer) taken.took.0
          (subst (λ (seat : Seat). AreViews seen.game seat taken.plays answer) taken.took.1
          (c.in_ok-answer_with_seen.ensures taken.plays taken.took.2));
    }
