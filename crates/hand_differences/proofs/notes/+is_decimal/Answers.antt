-- Digit by digit from the last.
use Rattle.std.proofs.Common.{◌∙◌, arith, sym}
use Rattle.hand_differences.proofs.Labels.{more_digits, no_digits, one_digit, other_digit}
use Rattle.hand_differences.proofs.notes.+is_decimal.Goals as goal

pub returns-then-from-number : goal.returns-then-from-number
returns-then-from-number t c = other_digit c.args.text.now c.args.number c.ranges.number.fits c.in-len1-up.len_at_least (λ same. c.if-from-number.true (c.from.ensures ∙ same))

pub returns-in-empty : goal.returns-in-empty
returns-in-empty t c = no_digits c.args.text.now c.args.number c.ranges.number.fits c.in-empty.len_below

pub returns-then-number-lt10 : goal.returns-then-number-lt10
returns-then-number-lt10 t c =
    c.is_empty.ensures ∙ one_digit c.args.text.now c.args.number c.if-number-lt10.true c.in-len1-up.len_at_least (sym c.from.ensures ∙ c.if-from-number.false)

pub returns-else-number-lt10 : goal.returns-else-number-lt10
returns-else-number-lt10 t c =
    c.is_decimal.ensures
    ∙ more_digits c.args.text.now c.args.number (omega (arith, c.if-number-lt10.false)) c.ranges.number.fits c.in-len1-up.len_at_least (sym c.from.ensures ∙ c.if-from-number.false)
