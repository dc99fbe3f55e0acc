use Rattle.std.proofs.Common.{sym, arith}
use Rattle.first_fault.proofs.MoreDigits.{digit_at, too_much}
use Rattle.first_fault.proofs.digits.read_digits.Goals as goal

pub returns-then-number-most : goal.returns-then-number-most
returns-then-number-most c =
    let l = c.loop-digit in
    let digit = digit_at c.args.digits.now l.digit-index c.loop-digit-test.true l.invariant.digits in
    sym (too_much c.args.digits.now l.digit-index l.number c.args.most l.invariant.value c.loop-digit-test.true (grind (arith, digit)))
