use Rattle.std.proofs.Common.{ℕ, ◌≡◌, max, arith, ap, ◌∙◌}
use Rattle.hand_order.specs.Digits.{class_above}
use Rattle.hand_order.specs.Ladder.{flush_class}
use Rattle.hand_order.specs.Tops.{tops}
use Rattle.hand_order.proofs.SuitBits.{suit_best, suit_none, tops_below}
use Rattle.hand_order.proofs.TopCounts.{tops_few_ones, tops_many}
use Rattle.hand_order.proofs.high.suit_points.Goals as goal

pub returns-then-mask-lt5 : goal.returns-then-mask-lt5
returns-then-mask-lt5 c = λ T of shows.
    suit_none c.args.flush c.args.low T c.args.mask of shows (omega (arith, tops_few_ones 5 c.args.mask (omega (arith, c.requires)), c.if-mask-lt5.true))

pub with_top_digits-requires : goal.with_top_digits-requires
with_top_digits-requires c = omega (arith, tops_below 5 c.args.mask (omega arith) c.requires)

pub above_number-suited-requires-clause-below : goal.above_number-suited-requires-clause-below
above_number-suited-requires-clause-below c = omega (arith, c.with_top_digits.ensures, tops_below 5 c.args.mask (omega arith) c.requires)

pub returns : goal.returns
returns c = λ T of shows.
    let number : c.above_number-suited.result ≡ class_above (flush_class c.args.flush) (tops 5 c.args.mask) = omega (arith, c.above_number-suited.ensures, c.class_of_flush.ensures, c.with_top_digits.ensures) in
    suit_best c.args.flush c.args.low T c.args.mask c.top_straight.result c.max.result of shows
    (omega (arith, tops_many 5 c.args.mask (omega (arith, c.requires)) (omega (arith, c.if-mask-lt5.false))))
    (λ top. c.top_straight.ensures.most T top shows) (c.top_straight.ensures.found T shows)
    (c.max.ensures ∙ ap (λ (n : ℕ). max n c.straight_points.result) number ∙ ap (λ (n : ℕ). max (class_above (flush_class c.args.flush) (tops 5 c.args.mask)) n) c.straight_points.ensures)
