-- A number below ten has one digit, and any other has one more than its tenth part.
use Rattle.std.proofs.Common.{◌≡◌, ◌+◌, decimal, length, ap, ◌∙◌, arith}
use Rattle.acpc_view.proofs.LineLengths.{few_digits, more_digits, one_digit}
use Rattle.acpc_view.proofs.counting.+digits_len.Goals as goal

pub returns-then-number-lt10 : goal.returns-then-number-lt10
returns-then-number-lt10 t c =
    record {
      value =
          one_digit c.args.number c.if-number-lt10.true;
      few = omega arith;
    }

pub returns-else-number-lt10 : goal.returns-else-number-lt10
returns-else-number-lt10 t c =
    let value : 1 + c.digits_len.result ≡ length (decimal c.args.number) =
    ap (λ n. 1 + n) c.digits_len.ensures.value
    ∙ more_digits c.args.number (omega (arith, c.if-number-lt10.false)) c.ranges.number.fits in
    record { value = value; few = omega (arith, value, few_digits c.args.number c.ranges.number.fits) }
