use Rattle.std.proofs.Common.{refl, subst, sym}
use Rattle.card_set.specs.Row.{cards_of}
use Rattle.hand_order.specs.Choices.{CanChoose}
use Rattle.hand_order.proofs.SetChoices.{count_of-row}
use Rattle.hand_counts.proofs.speed.best_score.Goals as goal

pub best_set-requires : goal.best_set-requires
best_set-requires g c =
    let cards = cards_of c.args.cards.now in
    subst (CanChoose g.O.HandOrder.HELD) (sym (count_of-row c.of.result cards cards refl c.requires.different c.of.ensures)) c.requires.can
