-- Without a low hand all chips go to the high winners, and else each half to its own.
use Rattle.std.proofs.Common.{◌-◌, ◌/◌, sym, ◌∙◌, ap, arith, inl, inr}
use Rattle.std.specs.Option.{option_map}
use Rattle.hand_order.specs.declared.order.Score.{Score}
use Rattle.chip_ledger.specs.SeatRow.{amount_of}
use Rattle.showdown_split.specs.Scores.{points_of}
use Rattle.showdown_split.specs.SeatPoints.{is_flagged}
use Rattle.showdown_split.proofs.Bests.{low_shown, no_low_shown}
use Rattle.showdown_split.proofs.Contests.{best_flagged, marked_parts, marked_some}
use Rattle.showdown_split.proofs.Flagged.{flagged_inside}
use Rattle.showdown_split.proofs.pot.contested.Goals as goal

pub divide-requires-clause-some : goal.divide-requires-clause-some
divide-requires-clause-some c =
    marked_some c.args.contending.now c.winners.result (points_of c.args.high.now) c.winners.ensures.seats c.winners.ensures.flags c.requires.some

pub divide-requires-in-Some-clause-some : goal.divide-requires-in-Some-clause-some
divide-requires-in-Some-clause-some c =
    let high = c.winners-in-Some in
    marked_some c.args.contending.now high.result (points_of c.args.high.now) high.ensures.seats high.ensures.flags c.requires.some

pub divide-requires-in-Some-2-clause-some : goal.divide-requires-in-Some-2-clause-some
divide-requires-in-Some-2-clause-some c =
    let low = c.winners-in-Some-2 in
    marked_some c.args.contending.now low.result (points_of c.args.low.now) low.ensures.seats low.ensures.flags c.requires.some

pub returns-in-None-clause-shares : goal.returns-in-None-clause-shares
returns-in-None-clause-shares c =
    let row = c.args.contending.now in
    let high = points_of c.args.high.now in
    let low = points_of c.args.low.now in
    let none = best_flagged row low ∙ sym c.best.ensures ∙ ap (option_map (λ (s : Score). s.points)) c.in-None.is in
    inl (no_low_shown row.seats (is_flagged row) high low (flagged_inside row) none, marked_parts row c.winners.result high c.args.chips (amount_of c.divide.result) c.winners.ensures.seats c.winners.ensures.flags c.divide.ensures.parts)

pub returns-in-Some-clause-shares : goal.returns-in-Some-clause-shares
returns-in-Some-clause-shares c =
    let row = c.args.contending.now in
    let high = points_of c.args.high.now in
    let low = points_of c.args.low.now in
    let best = best_flagged row low ∙ sym c.best.ensures ∙ ap (option_map (λ (s : Score). s.points)) c.in-Some.is in
    let first = c.winners-in-Some in
    let second = c.winners-in-Some-2 in
    let same = c.divide-in-Some.ensures.seats ∙ first.ensures.seats in
    inr (
      low_shown row.seats (is_flagged row) high low c.in-Some.field-0.points best,
      record {
        high = amount_of c.divide-in-Some.result;
        low = amount_of c.divide-in-Some-2.result;
        high_parts = marked_parts row first.result high (c.args.chips - c.args.chips / 2) (amount_of c.divide-in-Some.result) first.ensures.seats first.ensures.flags c.divide-in-Some.ensures.parts;
        low_parts = marked_parts row second.result low (c.args.chips / 2) (amount_of c.divide-in-Some-2.result) second.ensures.seats second.ensures.flags c.divide-in-Some-2.ensures.parts;
        together = λ n first_seat last_seat. c.together.ensures.sums n first_seat (omega (arith, same, last_seat));
      },
    )
