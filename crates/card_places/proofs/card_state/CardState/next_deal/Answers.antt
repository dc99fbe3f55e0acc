-- The seats before the one that is found are owed nothing, and if none is found no seat is owed
-- cards.
use Rattle.std.proofs.Common.{◌≡◌, nat_lt, sym, ap, ◌∙◌, arith}
use Rattle.std.proofs.lemmas.Bool.{lt-ltb}
use Rattle.card_places.specs.Refusals.{owed_in}
use Rattle.chip_ledger.proofs.FirstSeats.{first_seat, no_seat}
use Rattle.card_places.proofs.card_state.CardState.next_deal.Goals as goal

pub returns-then-count-gt0-clause-owner : goal.returns-then-count-gt0-clause-owner
returns-then-count-gt0-clause-owner c =
    let t = c.args.self.now in
    let index = c.loop-index.index in
    sym (first_seat (λ seat. nat_lt 0 (owed_in t c.args.live.now c.args.on seat)) index t.seats c.loop-index-test.true c.loop-index.invariant
    (ap (nat_lt 0) (sym c.owed-count.ensures.value) ∙ lt-ltb 0 c.owed-count.result c.if-count-gt0.true))

pub returns-clause-owner : goal.returns-clause-owner
returns-clause-owner c =
    let t = c.args.self.now in
    let all : c.loop-index.index ≡ t.seats = omega (arith, c.loop-index.auto.index-end, c.loop-index-test.false) in
    sym (no_seat (λ seat. nat_lt 0 (owed_in t c.args.live.now c.args.on seat)) t.seats
    (rw all at c.loop-index.invariant))
