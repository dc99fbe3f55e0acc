use Rattle.std.proofs.Common.{rules, ◌+◌, [], ◌∷◌, ◌++◌, drop, get_or, arith, refl, sym, ◌∙◌}
use Rattle.card_set.specs.Filler.{filler_card}
use Rattle.card_set.specs.Row.{cards_of}
use Rattle.card_set.proofs.Listing.{count_of-listing}
use Rattle.hand_order.proofs.Chosen.{best_step, drop-row, greatest-zero}
use Rattle.hand_order.proofs.Joined.{apart_rest, apart_taken, count_more, different_rest, greatest-few, listing_more, takes_first}
use Rattle.hand_order.proofs.SetChoices.{only_choice}
use Rattle.hand_order.proofs.best.+best_with.Goals as goal

pub returns-then-need-eq0 : goal.returns-then-need-eq0
returns-then-need-eq0 g t c = λ listing lists.
    let e = c.if-need-eq0.true in
    let held = c.requires.held in
    rw e (c.best_set.ensures listing lists
    ∙ only_choice g.O.HandOrder.points g.O.HandOrder.HELD listing (omega (arith, held, e, count_of-listing c.args.chosen listing lists))
    ∙ sym (greatest-zero g.O.HandOrder.points listing (drop c.args.from (cards_of c.args.cards.now))))

pub returns-then-saturating_sub-need : goal.returns-then-saturating_sub-need
returns-then-saturating_sub-need g t c = λ listing lists.
    sym (greatest-few (λ more. g.O.HandOrder.points (listing ++ more)) c.args.cards.now c.args.from c.args.need (omega (arith, c.saturating_sub.ensures, c.if-saturating_sub-need.true)))

pub best_with-requires : goal.best_with-requires
best_with-requires g t c κs within =
    let card = get_or c.args.cards.now.cards c.args.from filler_card in
    let cards = drop c.args.from (cards_of c.args.cards.now) in
    let rest = drop (c.args.from + 1) (cards_of c.args.cards.now) in
    let left = drop-row c.args.cards.now c.args.from (omega arith) in
    let takes = takes_first c.args.chosen c.insert.new.self card cards rest left c.requires.apart c.insert.ensures.inside c.insert.ensures.others in (
      search rules,
      (
        within,
        (
          omega (arith, c.requires.held, count_more c.args.chosen c.insert.new.self card takes),
          (
            different_rest card cards rest left c.requires.different,
            apart_taken c.args.chosen c.insert.new.self card cards rest left c.requires.different c.requires.apart takes,
          ),
        ),
      ),
    )

pub best_with-requires-2 : goal.best_with-requires-2
best_with-requires-2 g t c κs within =
    let card = get_or c.args.cards.now.cards c.args.from filler_card in
    let cards = drop c.args.from (cards_of c.args.cards.now) in
    let rest = drop (c.args.from + 1) (cards_of c.args.cards.now) in
    let left = drop-row c.args.cards.now c.args.from (omega arith) in (
      search rules,
      (
        within,
        (
          c.requires.held,
          (
            different_rest card cards rest left c.requires.different,
            apart_rest c.args.chosen card cards rest left c.requires.apart,
          ),
        ),
      ),
    )

pub returns : goal.returns
returns g t c = λ listing lists.
    let card = get_or c.args.cards.now.cards c.args.from filler_card in
    let cards = drop c.args.from (cards_of c.args.cards.now) in
    let rest = drop (c.args.from + 1) (cards_of c.args.cards.now) in
    let left = drop-row c.args.cards.now c.args.from (omega arith) in
    let takes = takes_first c.args.chosen c.insert.new.self card cards rest left c.requires.apart c.insert.ensures.inside c.insert.ensures.others in
    best_step g.O.HandOrder.points listing (listing ++ card ∷ []) (cards_of c.args.cards.now) card c.args.from c.args.need _ _ _ (omega arith) refl left c.better_score.ensures (c.best_with.ensures (listing ++ card ∷ []) (listing_more c.args.chosen c.insert.new.self card listing takes lists)) (c.best_with-2.ensures listing lists)
