use Rattle.std.proofs.Common.{◌∙◌}
use Rattle.card_set.specs.Row.{cards_of}
use Rattle.hand_order.proofs.SetChoices.{accepted_listed, greatest_listed}
use Rattle.hand_order.proofs.best.best_listed.Goals as goal

pub best_choice-requires-clause-accepted : goal.best_choice-requires-clause-accepted
best_choice-requires-clause-accepted g c = λ more among.
    accepted_listed (g.J.Scorer.accepts c.args.scorer.now) c.args.held (cards_of c.new.result) (cards_of c.to_row.result) more c.args.cards.now c.new.ensures c.to_row.ensures c.requires.accepted among

pub returns : goal.returns
returns g c = λ listing lists.
    c.best_choice.ensures
    ∙ greatest_listed (g.J.Scorer.points c.args.scorer.now) c.args.held (cards_of c.new.result) (cards_of c.to_row.result) listing c.args.cards.now c.new.ensures c.to_row.ensures c.requires.alike lists
