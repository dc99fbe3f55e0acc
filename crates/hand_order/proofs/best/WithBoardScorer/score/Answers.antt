use Rattle.std.proofs.Common.{arith, refl}
use Rattle.card_set.specs.Row.{cards_of}
use Rattle.hand_order.proofs.Held.{different_parts}
use Rattle.hand_order.proofs.Joined.{apart_of}
use Rattle.hand_order.proofs.SetChoices.{count_of-row, listing_of}
use Rattle.hand_order.proofs.best.WithBoardScorer.score.Goals as goal

pub best_with-requires-clause-held : goal.best_with-requires-clause-held
best_with-requires-clause-held g c =
    let chosen = cards_of c.args.chosen.now in
    let parts = different_parts chosen (cards_of c.args.self.now.board) c.requires.1 in
    omega (arith, c.requires.0, count_of-row c.of.result chosen chosen refl parts.0 c.of.ensures)

pub best_with-requires-clause-different : goal.best_with-requires-clause-different
best_with-requires-clause-different g c = (different_parts (cards_of c.args.chosen.now) (cards_of c.args.self.now.board) c.requires.1).1

pub best_with-requires-clause-apart : goal.best_with-requires-clause-apart
best_with-requires-clause-apart g c = apart_of c.of.result (cards_of c.args.chosen.now) (cards_of c.args.self.now.board) c.requires.1 c.of.ensures

pub returns : goal.returns
returns g c =
    let chosen = cards_of c.args.chosen.now in
    let parts = different_parts chosen (cards_of c.args.self.now.board) c.requires.1 in
    c.best_with.ensures chosen (listing_of c.of.result chosen chosen refl parts.0 c.of.ensures)
