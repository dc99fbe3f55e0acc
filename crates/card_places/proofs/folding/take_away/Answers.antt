-- One more card is looked at in each step.
use Rattle.std.proofs.Common.{ℕ, ◌∷◌, map, get_or, ap, sym, ◌∙◌, arith}
use Rattle.play_event.specs.Places.{Place, folded_place}
use Rattle.card_places.specs.Placed.{placed}
use Rattle.card_places.specs.Plain.{place_of}
use Rattle.card_places.proofs.InPlace.{walk_more}
use Rattle.card_places.proofs.folding.take_away.Goals as goal

pub loop-index-preserved : goal.loop-index-preserved
loop-index-preserved c =
    let old = c.args.places.now in
    let now = c.loop-index.places in
    let turned = folded_place c.args.seat.number old.count in
    let inv = c.loop-index.invariant in
    let here = c.index-places-index.result in
    let card : Place = place_of (get_or now.rows c.loop-index.index here) in (
      inv.0,
      walk_more (map turned) (map turned) now.rows c.loop-index.index old.count here c.folded.result (map turned (placed old)) c.loop-index-test.true (omega (arith, old.most, now.full))
          (λ rest. ap (λ p. p ∷ map turned rest) (sym (c.folded.ensures ∙ ap (λ (n : ℕ). folded_place c.args.seat.number n card) inv.0))) inv.1,
    )
