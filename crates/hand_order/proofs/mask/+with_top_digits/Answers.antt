use Rattle.std.proofs.Common.{◌*◌, ◌^◌, ◌%◌, arith, bit_and, refl, rules, ◌∙◌, w16}
use Rattle.std.specs.Int.{bit_not}
use Rattle.hand_order.proofs.TopDigits.{digit_fits, digits_grown, digits_none, digits_past}
use Rattle.hand_order.proofs.mask.+with_top_digits.Goals as goal
use Rattle.hand_order.proofs.mask.+with_top_digits.Goals.{then-need-eq0-via-then-need-eq0, then-need-eq0-via-else-need-eq0+then-mask-eq0}

pub returns-then-need-eq0 : goal.returns-then-need-eq0
returns-then-need-eq0 t c = elim c.then-need-eq0.branch [
  | then-need-eq0-via-then-need-eq0 w ↦ digits_none c.args.number c.args.mask c.args.need w.if-need-eq0.true
  | then-need-eq0-via-else-need-eq0+then-mask-eq0 w ↦ digits_past c.args.number c.args.mask c.args.need w.if-mask-eq0.true
]

pub overflow_mul-number : goal.overflow_mul-number
overflow_mul-number t c =
    let fits = digit_fits c.args.number c.args.mask c.args.need c.top-place.result (bit_and c.args.mask (bit_not w16 (1 * 2 ^ c.top-place.result % 2 ^ 16))) c.if-need-eq0.false c.if-mask-eq0.false c.top-place.ensures.place refl in
    omega (arith, fits, c.requires)

pub overflow_add-number : goal.overflow_add-number
overflow_add-number t c =
    let fits = digit_fits c.args.number c.args.mask c.args.need c.top-place.result (bit_and c.args.mask (bit_not w16 (1 * 2 ^ c.top-place.result % 2 ^ 16))) c.if-need-eq0.false c.if-mask-eq0.false c.top-place.ensures.place refl in
    omega (arith, fits, c.requires)

pub overflow_add-number-2 : goal.overflow_add-number-2
overflow_add-number-2 t c =
    let fits = digit_fits c.args.number c.args.mask c.args.need c.top-place.result (bit_and c.args.mask (bit_not w16 (1 * 2 ^ c.top-place.result % 2 ^ 16))) c.if-need-eq0.false c.if-mask-eq0.false c.top-place.ensures.place refl in
    omega (arith, fits, c.requires)

pub with_top_digits-requires : goal.with_top_digits-requires
with_top_digits-requires t c =
    let same = digits_grown c.args.number c.args.mask c.args.need c.top-place.result c.clear.result c.if-need-eq0.false c.if-mask-eq0.false c.top-place.ensures.place c.clear.ensures.number in
    let some = c.if-need-eq0.false in
    (search rules, omega (arith, same, c.requires))

pub returns : goal.returns
returns t c =
    c.with_top_digits.ensures
    ∙ digits_grown c.args.number c.args.mask c.args.need c.top-place.result c.clear.result c.if-need-eq0.false c.if-mask-eq0.false c.top-place.ensures.place c.clear.ensures.number
