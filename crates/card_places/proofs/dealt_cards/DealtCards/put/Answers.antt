-- One more card is dealt in each step.
use Rattle.std.proofs.Common.{ℕ, ◌+◌, take, length, count_by, arith}
use Rattle.play_event.specs.Places.{is_in_group}
use Rattle.card_places.specs.Placed.{placed}
use Rattle.card_places.proofs.Putting.{put_more, placed_length}
use Rattle.std.proofs.lemmas.List.{length-take}
use Rattle.std.proofs.lemmas.Grind.{take_at_read}
use Rattle.card_places.proofs.dealt_cards.DealtCards.put.Goals as goal
use Rattle.chip_ledger.specs.SeatsSaid.{seat_said}

pub loop-slot-preserved : goal.loop-slot-preserved
loop-slot-preserved c =
    let start = c.args.self.now in
    let k = c.loop-slot.slot-index in
    let cards = c.args.cards.now in
    let owner = seat_said c.args.owner in
    let group : ℕ = count_by (is_in_group owner c.args.street) (placed start) in
    let inv = c.loop-slot.invariant in (
      omega arith,
      omega arith,
      omega arith,
      put_more (placed start) owner c.args.street c.args.past_deck group (length (placed start)) (take k cards) (take (k + 1) cards) _ (placed c.loop-slot.self) (placed c.push.new.self) c.loop-slot.index c.loop-slot.self.count inv.3 c.push.ensures.places (take_at_read cards k _ c.loop-slot-test.true).1
          (omega (arith, length-take k cards, inv.1, c.loop-slot-test.true)) (omega (arith, length-take k cards, inv.0, placed_length start, c.loop-slot-test.true)),
    )
