use Rattle.std.proofs.Common.{rules, ◌+◌, ◌++◌, drop, get_or, arith, sym, ◌∙◌}
use Rattle.card_set.specs.Filler.{filler_card}
use Rattle.card_set.specs.Row.{cards_of}
use Rattle.hand_order.proofs.Chosen.{accepted_zero, accepted_with, accepted_without, greatest-zero, greatest-empty, best_step, drop-row, drop-past}
use Rattle.hand_order.proofs.best.+best_choice.Goals as goal

pub score-requires : goal.score-requires
score-requires g t c =
    accepted_zero (g.J.Scorer.accepts c.args.scorer.now) (cards_of c.args.chosen) (drop c.args.from (cards_of c.args.cards.now))
    (let e = c.if-need-eq0.true in rw e at c.requires.accepted)

pub returns-then-need-eq0 : goal.returns-then-need-eq0
returns-then-need-eq0 g t c =
    let e = c.if-need-eq0.true in
    rw e (c.score.ensures ∙ sym (greatest-zero (g.J.Scorer.points c.args.scorer.now) (cards_of c.args.chosen) (drop c.args.from (cards_of c.args.cards.now))))

pub returns-then-from-cards : goal.returns-then-from-cards
returns-then-from-cards g t c =
    let e = drop-past c.args.cards.now c.args.from c.if-from-cards.true in
    rw e (sym (greatest-empty (λ more. g.J.Scorer.points c.args.scorer.now (cards_of c.args.chosen ++ more)) c.args.need (omega arith)))

pub best_choice-requires : goal.best_choice-requires
best_choice-requires g t c κs within =
    let left = drop-row c.args.cards.now c.args.from (omega arith) in
    let longer = c.push.ensures.longer in (
      search rules,
      (
        within,
        (
          omega arith,
          accepted_with (g.J.Scorer.accepts c.args.scorer.now) (cards_of c.args.chosen) (cards_of c.push.new.self) (drop (c.args.from + 1) (cards_of c.args.cards.now)) (get_or c.args.cards.now.cards c.args.from filler_card) c.args.need (omega arith) c.push.ensures.entries
              (rw left at c.requires.accepted),
        ),
      ),
    )

pub best_choice-requires-2 : goal.best_choice-requires-2
best_choice-requires-2 g t c κs within =
    let left = drop-row c.args.cards.now c.args.from (omega arith) in (
      search rules,
      (
        within,
        (
          c.requires.room,
          accepted_without (g.J.Scorer.accepts c.args.scorer.now) (cards_of c.args.chosen) (drop (c.args.from + 1) (cards_of c.args.cards.now)) (get_or c.args.cards.now.cards c.args.from filler_card) c.args.need (omega arith)
              (rw left at c.requires.accepted),
        ),
      ),
    )

pub returns : goal.returns
returns g t c =
    best_step (g.J.Scorer.points c.args.scorer.now) (cards_of c.args.chosen) (cards_of c.push.new.self) (cards_of c.args.cards.now) (get_or c.args.cards.now.cards c.args.from filler_card) c.args.from c.args.need _ _ _ (omega arith) c.push.ensures.entries (drop-row c.args.cards.now c.args.from (omega arith)) c.better_score.ensures c.best_choice.ensures c.best_choice-2.ensures
