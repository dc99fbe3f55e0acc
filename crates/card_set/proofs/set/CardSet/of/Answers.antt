use Rattle.std.proofs.Common.{refl}
use Rattle.card_set.specs.CardSet.{is_in}
use Rattle.card_set.specs.Filler.{filler_card}
use Rattle.card_set.proofs.SetLaws.{inserted}
use Rattle.card_set.proofs.set.CardSet.of.Goals as goal

pub loop-card-preserved : goal.loop-card-preserved
loop-card-preserved c =
    inserted (is_in c.loop-card.set) (is_in c.insert.new.self) c.as_slice-card-items.result.now c.loop-card.card-index _ filler_card c.loop-card-test.true refl c.loop-card.invariant c.insert.ensures.inside c.insert.ensures.others
