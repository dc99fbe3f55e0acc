-- The seats before the one that is found do not draw any more, and if none is found no seat has to
-- draw.
use Rattle.std.proofs.Common.{◌≡◌, ◌+◌, not, sym, ap, ◌∙◌, arith}
use Rattle.std.proofs.lemmas.Bool.{and_from}
use Rattle.chip_ledger.specs.LiveRow.{flag_of}
use Rattle.card_places.specs.Drawn.{has_drawn_at}
use Rattle.card_places.specs.Refusals.{has_to_draw}
use Rattle.chip_ledger.proofs.FirstSeats.{first_seat, no_seat}
use Rattle.card_places.proofs.card_state.CardState.next_to_draw.Goals as goal

pub returns-then-not-drew-clause-found : goal.returns-then-not-drew-clause-found
returns-then-not-drew-clause-found c =
    let t = c.args.self.now in
    let index = c.loop-index.index in
    sym (first_seat (has_to_draw t c.args.live.now c.args.on) index t.seats c.loop-index-test.true c.loop-index.invariant
    (and_from (flag_of c.args.live.now (index + 1)) (not (has_drawn_at t.draws c.args.on (index + 1)))
    (sym c.get.ensures ∙ c.if-get.true) (ap not (sym c.drew.ensures ∙ c.if-not-drew.true))))

pub returns-clause-found : goal.returns-clause-found
returns-clause-found c =
    let t = c.args.self.now in
    let all : c.loop-index.index ≡ t.seats = omega (arith, c.loop-index.auto.index-end, c.loop-index-test.false) in
    sym (no_seat (has_to_draw t c.args.live.now c.args.on) t.seats
    (rw all at c.loop-index.invariant))
