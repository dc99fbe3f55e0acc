use Rattle.std.proofs.Common.{◌<◌, ◌≤◌, ℕ, IfSome, Option, Some, None, arith}
use Rattle.phh_format.proofs.Bounds.{number_within}
use Rattle.phh_format.proofs.notes.number_of.Goals as goal

smaller : (found : Option ℕ) → IfSome found (λ number. number ≤ 999999999999999999) → IfSome found (λ number. number < 9223372036854775808)
smaller None within = tt
smaller (Some number) within = omega (arith, within)

pub returns-clause-small : goal.returns-clause-small
returns-clause-small c = smaller c.read_digits.result (number_within 999999999999999999 c.args.text.now c.read_digits.result c.read_digits.ensures)
