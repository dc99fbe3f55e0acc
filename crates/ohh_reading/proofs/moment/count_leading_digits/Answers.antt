use Rattle.std.proofs.Common.{sym, arith, length}
use Rattle.std.specs.Char.{is_digit}
use Rattle.std.proofs.lemmas.List.Sums.{prefix_len_is}
use Rattle.ohh_reading.proofs.moment.count_leading_digits.Goals as goal

pub returns-then-not-is_ascii_digit : goal.returns-then-not-is_ascii_digit
returns-then-not-is_ascii_digit c = sym (prefix_len_is (λ sign. is_digit sign 10) c.args.text.now c.loop-index.index 0 (omega arith) c.loop-index.invariant (λ within. grind arith))

pub returns : goal.returns
returns c = sym (prefix_len_is (λ sign. is_digit sign 10) c.args.text.now (length c.args.text.now) 0 (omega arith) (λ k within. c.loop-index.invariant k (omega (arith, within))) (λ within. absurd (omega (arith, within))))
