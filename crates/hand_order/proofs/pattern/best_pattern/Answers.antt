use Rattle.std.proofs.Common.{◌+◌, ◌*◌, [], sym, arith}
use Rattle.hand_order.specs.Tops.{highest, tops}
use Rattle.hand_order.proofs.BestPatterns.{cleared_at, written_one, written_two, best_four, best_full, best_three, best_pairs, best_pair, best_ones}
use Rattle.hand_order.proofs.Digits.{with_digits-nil}
use Rattle.hand_order.proofs.TopDigits.{digits_fit}
use Rattle.hand_order.proofs.pattern.best_pattern.Goals as goal
use Rattle.card_set.proofs.Numbers.{positive}

pub with_top_digits-number-requires : goal.with_top_digits-number-requires
with_top_digits-number-requires c =
    digits_fit 1 (c.top-first.result + 2) c.clear.result 20 (omega (arith, c.top-first.ensures.within)) (omega arith)

pub returns-then-four-ne0 : goal.returns-then-four-ne0
returns-then-four-ne0 c = λ T counts all two three four.
    written_one T 7 c.top-first.result (highest c.args.four) c.with_top_digits-number.result (tops 1 c.clear.result) c.top-first.ensures.place c.with_top_digits-number.ensures
    (best_four c.args.all c.args.four c.clear.result T counts four (positive c.args.four c.if-four-ne0.true)
    (cleared_at c.args.all c.clear.result c.top-first.result 1 (highest c.args.four) T all (omega arith) c.top-first.ensures.place c.clear.ensures.number c.clear.ensures.bits))

pub returns-then-more-ne0 : goal.returns-then-more-ne0
returns-then-more-ne0 c = λ T counts all two three four.
    let first = c.top-first-then-three-ne0.ensures.place in
    let more = cleared_at c.args.two c.clear-more.result c.top-first-then-three-ne0.result 2 (highest c.args.three) T two (omega arith) first c.clear-more.ensures.number c.clear-more.ensures.bits in
    written_two T 6 c.top-first-then-three-ne0.result (highest c.args.three) c.top.result (highest c.clear-more.result) ((c.top-first-then-three-ne0.result + 2) * 16 + c.top.result + 2) [] first c.top.ensures.place (sym (with_digits-nil ((c.top-first-then-three-ne0.result + 2) * 16 + c.top.result + 2)))
    (best_full c.args.four c.args.three c.clear-more.result T counts four c.if-four-ne0.false three (positive c.args.three c.if-three-ne0.true) more (positive c.clear-more.result c.if-more-ne0.true))

pub with_top_digits-number-requires-then-three-ne0 : goal.with_top_digits-number-requires-then-three-ne0
with_top_digits-number-requires-then-three-ne0 c =
    digits_fit 2 (c.top-first-then-three-ne0.result + 2) c.clear-then-three-ne0.result 20 (omega (arith, c.top-first-then-three-ne0.ensures.within)) (omega arith)

pub returns-then-three-ne0 : goal.returns-then-three-ne0
returns-then-three-ne0 c = λ T counts all two three four.
    let first = c.top-first-then-three-ne0.ensures.place in
    let more = cleared_at c.args.two c.clear-more.result c.top-first-then-three-ne0.result 2 (highest c.args.three) T two (omega arith) first c.clear-more.ensures.number c.clear-more.ensures.bits in
    let rest = cleared_at c.args.all c.clear-then-three-ne0.result c.top-first-then-three-ne0.result 1 (highest c.args.three) T all (omega arith) first c.clear-then-three-ne0.ensures.number c.clear-then-three-ne0.ensures.bits in
    written_one T 3 c.top-first-then-three-ne0.result (highest c.args.three) c.with_top_digits-number-then-three-ne0.result (tops 2 c.clear-then-three-ne0.result) first c.with_top_digits-number-then-three-ne0.ensures
    (best_three c.args.four c.args.three c.clear-more.result c.clear-then-three-ne0.result T counts four c.if-four-ne0.false three (positive c.args.three c.if-three-ne0.true) more c.if-more-ne0.false rest)

pub with_top_digits-number-requires-then-more-ne0-2 : goal.with_top_digits-number-requires-then-more-ne0-2
with_top_digits-number-requires-then-more-ne0-2 c =
    digits_fit 1 ((c.top-first-then-two-ne0.result + 2) * 16 + c.top-second.result + 2) c.clear-rest.result 400 (omega (arith, c.top-first-then-two-ne0.ensures.within, c.top-second.ensures.within)) (omega arith)

pub returns-then-more-ne0-2 : goal.returns-then-more-ne0-2
returns-then-more-ne0-2 c = λ T counts all two three four.
    let first = c.top-first-then-two-ne0.ensures.place in
    let second = c.top-second.ensures.place in
    let more = cleared_at c.args.two c.clear-more-then-two-ne0.result c.top-first-then-two-ne0.result 2 (highest c.args.two) T two (omega arith) first c.clear-more-then-two-ne0.ensures.number c.clear-more-then-two-ne0.ensures.bits in
    let left = cleared_at c.args.all c.clear-then-more-ne0-2.result c.top-first-then-two-ne0.result 1 (highest c.args.two) T all (omega arith) first c.clear-then-more-ne0-2.ensures.number c.clear-then-more-ne0-2.ensures.bits in
    let rest = cleared_at c.clear-then-more-ne0-2.result c.clear-rest.result c.top-second.result 1 (highest c.clear-more-then-two-ne0.result) _ left (omega arith) second c.clear-rest.ensures.number c.clear-rest.ensures.bits in
    written_two T 2 c.top-first-then-two-ne0.result (highest c.args.two) c.top-second.result (highest c.clear-more-then-two-ne0.result) c.with_top_digits-number-then-more-ne0-2.result (tops 1 c.clear-rest.result) first second c.with_top_digits-number-then-more-ne0-2.ensures
    (best_pairs c.args.four c.args.three c.args.two c.clear-more-then-two-ne0.result c.clear-rest.result T counts four c.if-four-ne0.false three c.if-three-ne0.false two (positive c.args.two c.if-two-ne0.true) more (positive c.clear-more-then-two-ne0.result c.if-more-ne0-2.true) rest)

pub with_top_digits-number-requires-then-two-ne0 : goal.with_top_digits-number-requires-then-two-ne0
with_top_digits-number-requires-then-two-ne0 c =
    digits_fit 3 (c.top-first-then-two-ne0.result + 2) c.clear-then-two-ne0.result 20 (omega (arith, c.top-first-then-two-ne0.ensures.within)) (omega arith)

pub returns-then-two-ne0 : goal.returns-then-two-ne0
returns-then-two-ne0 c = λ T counts all two three four.
    let first = c.top-first-then-two-ne0.ensures.place in
    let more = cleared_at c.args.two c.clear-more-then-two-ne0.result c.top-first-then-two-ne0.result 2 (highest c.args.two) T two (omega arith) first c.clear-more-then-two-ne0.ensures.number c.clear-more-then-two-ne0.ensures.bits in
    let rest = cleared_at c.args.all c.clear-then-two-ne0.result c.top-first-then-two-ne0.result 1 (highest c.args.two) T all (omega arith) first c.clear-then-two-ne0.ensures.number c.clear-then-two-ne0.ensures.bits in
    written_one T 1 c.top-first-then-two-ne0.result (highest c.args.two) c.with_top_digits-number-then-two-ne0.result (tops 3 c.clear-then-two-ne0.result) first c.with_top_digits-number-then-two-ne0.ensures
    (best_pair c.args.four c.args.three c.args.two c.clear-more-then-two-ne0.result c.clear-then-two-ne0.result T counts four c.if-four-ne0.false three c.if-three-ne0.false two (positive c.args.two c.if-two-ne0.true) more c.if-more-ne0-2.false rest)

pub with_top_digits-number-requires-2 : goal.with_top_digits-number-requires-2
with_top_digits-number-requires-2 c = digits_fit 5 0 c.args.all 2 (omega arith) (omega arith)

pub returns : goal.returns
returns c = λ T counts all two three four.
    record {
      hs = tops 5 c.args.all;
      best = best_ones c.args.four c.args.three c.args.two c.args.all T counts four c.if-four-ne0.false three c.if-three-ne0.false two c.if-two-ne0.false all;
      written = c.with_top_digits-number-2.ensures;
    }
