-- Each pick has its own choices: of both rows, of two and three cards, or the hole cards alone.
use Rattle.std.proofs.Common.{◌≡◌, ◌≤◌, ◌+◌, ◌++◌, ℕ, length, inl, inr, refl, sym, ap, arith, ◌∙◌, length-append}
use Rattle.card_set.specs.Row.{cards_of}
use Rattle.hand_order.specs.Choices.{choices}
use Rattle.hand_order.specs.Points.{greatest}
use Rattle.hand_order.proofs.Chosen.{greatest_of_both}
use Rattle.hand_order.proofs.Greatest.{greatest-one}
use Rattle.hand_order.proofs.Held.{different_parts, joins_start}
use Rattle.hand_order.proofs.SetChoices.{listing_of, count_of-row, only_choice}
use Rattle.hand_order.proofs.best.greatest_score.Goals as goal

pub best_set-requires : goal.best_set-requires
best_set-requires g c =
    let e = c.in-AnyFive.is in
    let hole = cards_of c.args.hole.now in
    let board = cards_of c.args.board.now in
    let usable : (g.O.HandOrder.HELD ≡ 5) × (5 ≤ length hole + length board) × (length hole + length board ≤ 7) = rw e at c.requires.usable in
    let count = count_of-row c.of.result (cards_of c.joined.result) _ c.joined.ensures c.requires.different c.of.ensures in
    inl (usable.0, omega (arith, count, length-append hole board, usable.1), omega (arith, count, length-append hole board, usable.2))

pub returns-in-AnyFive : goal.returns-in-AnyFive
returns-in-AnyFive g c =
    let e = c.in-AnyFive.is in
    let hole = cards_of c.args.hole.now in
    let board = cards_of c.args.board.now in
    let usable : (g.O.HandOrder.HELD ≡ 5) × (5 ≤ length hole + length board) × (length hole + length board ≤ 7) = rw e at c.requires.usable in
    rw e (c.best_set.ensures _ (listing_of c.of.result (cards_of c.joined.result) _ c.joined.ensures c.requires.different c.of.ensures)
    ∙ ap (λ (n : ℕ). greatest g.O.HandOrder.points (choices n (hole ++ board))) usable.0)

pub best_choice-requires-clause-accepted : goal.best_choice-requires-clause-accepted
best_choice-requires-clause-accepted g c = λ more among.
    let e = c.in-TwoAndThree.is in
    let hole = cards_of c.args.hole.now in
    let board = cards_of c.args.board.now in
    let usable : (g.O.HandOrder.HELD ≡ 5) × (2 ≤ length hole) × (3 ≤ length board) = rw e at c.requires.usable in
    joins_start g.O.HandOrder.HELD (cards_of c.new.result) hole board more usable.0 c.new.ensures c.requires.different among

pub returns-in-TwoAndThree : goal.returns-in-TwoAndThree
returns-in-TwoAndThree g c =
    let e = c.in-TwoAndThree.is in
    rw e (c.best_choice.ensures
    ∙ greatest_of_both g.O.HandOrder.points (cards_of c.new.result) 2 (cards_of c.args.hole.now) 3 (cards_of c.args.board.now) c.new.ensures)

pub best_set-requires-in-AllHeld : goal.best_set-requires-in-AllHeld
best_set-requires-in-AllHeld g c =
    let e = c.in-AllHeld.is in
    let hole = cards_of c.args.hole.now in
    let long : length hole ≡ g.O.HandOrder.HELD = rw e at c.requires.usable in
    let parts = different_parts hole (cards_of c.args.board.now) c.requires.different in
    inr (count_of-row c.of-in-AllHeld.result hole hole refl parts.0 c.of-in-AllHeld.ensures ∙ long)

pub returns-in-AllHeld : goal.returns-in-AllHeld
returns-in-AllHeld g c =
    let e = c.in-AllHeld.is in
    let hole = cards_of c.args.hole.now in
    let long : length hole ≡ g.O.HandOrder.HELD = rw e at c.requires.usable in
    let parts = different_parts hole (cards_of c.args.board.now) c.requires.different in
    rw e (c.best_set-in-AllHeld.ensures hole (listing_of c.of-in-AllHeld.result hole hole refl parts.0 c.of-in-AllHeld.ensures)
    ∙ only_choice g.O.HandOrder.points g.O.HandOrder.HELD hole long
    ∙ sym (greatest-one g.O.HandOrder.points hole))
