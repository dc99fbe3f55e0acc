use Rattle.card_set.specs.Row.{cards_of}
use Rattle.hand_order.specs.Choices.{allowed, AreHeld}
use Rattle.hand_order.proofs.Held.{held_allowed}
use Rattle.hand_order.proofs.Lawful.{none_by_greatest, best_by_greatest}
use Rattle.hand_order.proofs.best.best_of.Goals as goal

pub returns-clause-none : goal.returns-clause-none
returns-clause-none g c =
    let hole = cards_of c.args.hole.now in
    let board = cards_of c.args.board.now in
    none_by_greatest (AreHeld g.O.HandOrder.HELD) g.O.HandOrder.is_hand g.O.HandOrder.is_weaker g.O.HandOrder.points (allowed c.args.pick hole board) c.greatest_score.result g.met.O.HandOrder.lawful
    (λ choice among. held_allowed g.O.HandOrder.HELD c.args.pick hole board choice c.requires.usable c.requires.different among) c.greatest_score.ensures

pub returns-clause-best : goal.returns-clause-best
returns-clause-best g c =
    let hole = cards_of c.args.hole.now in
    let board = cards_of c.args.board.now in
    best_by_greatest (AreHeld g.O.HandOrder.HELD) g.O.HandOrder.is_hand g.O.HandOrder.is_weaker g.O.HandOrder.points (allowed c.args.pick hole board) c.greatest_score.result g.met.O.HandOrder.lawful
    (λ choice among. held_allowed g.O.HandOrder.HELD c.args.pick hole board choice c.requires.usable c.requires.different among) c.greatest_score.ensures
