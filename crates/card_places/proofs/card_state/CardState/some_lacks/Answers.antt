-- Each seat's count is that of its cards.
use Rattle.std.proofs.Common.{◌+◌, ◌≤◌, rules, arith}
use Rattle.chip_ledger.proofs.SeatLists.{any_more}
use Rattle.card_places.specs.Placed.{placed}
use Rattle.card_places.proofs.Tallies.{seat_counted}
use Rattle.card_places.proofs.card_state.CardState.some_lacks.Goals as goal
use Rattle.card_places.proofs.card_state.CardState.some_lacks.Goals.{then-get, else-get}

pub loop-index-preserved : goal.loop-index-preserved
loop-index-preserved c =
    let t = c.args.self.now in
    let last : c.loop-index.index + 1 ≤ 10 = omega (arith, c.loop-index-test.true, t.shown_seats, t.shown.greatest) in
    elim c.if-get.branch [
      | then-get w ↦
          let counted = seat_counted c.args.dealt.now.numbers c.args.on (placed t.places) (c.loop-index.index + 1) w.of.result (omega arith) last c.requires w.of.ensures in
          search (rules, any_more, counted)
      | else-get w ↦ search (rules, any_more)
    ]
