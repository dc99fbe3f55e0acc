use Rattle.std.proofs.Common.{◌+◌, arith, sym}
use Rattle.hand_order.proofs.Digits.{with_digits-nil}
use Rattle.hand_order.proofs.RankDigits.{digit_more, digits_le}
use Rattle.hand_order.proofs.ranks.number_of.Goals as goal

pub loop-digit-init : goal.loop-digit-init
loop-digit-init c = sym (with_digits-nil 0)

pub overflow_mul-number : goal.overflow_mul-number
overflow_mul-number c =
    omega (arith, digit_more c.args.digits.now c.loop-digit.digit-index c.loop-digit-test.true, digits_le c.args.digits.now (c.loop-digit.digit-index + 1))

pub overflow_add-number : goal.overflow_add-number
overflow_add-number c =
    omega (arith, digit_more c.args.digits.now c.loop-digit.digit-index c.loop-digit-test.true, digits_le c.args.digits.now (c.loop-digit.digit-index + 1))

pub loop-digit-preserved : goal.loop-digit-preserved
loop-digit-preserved c = omega (arith, digit_more c.args.digits.now c.loop-digit.digit-index c.loop-digit-test.true)
