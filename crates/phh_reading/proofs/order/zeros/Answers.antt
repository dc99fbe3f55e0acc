use Rattle.std.proofs.Common.{sym, arith, length, eqb}
use Rattle.std.proofs.lemmas.List.Sums.{prefix_len_is}
use Rattle.phh_reading.proofs.order.zeros.Goals as goal

pub returns-then-digit-ne48 : goal.returns-then-digit-ne48
returns-then-digit-ne48 c = sym (prefix_len_is (λ digit. eqb digit 48) c.args.key.now c.loop-index.index 0 (omega arith) c.loop-index.invariant (λ within. grind arith))

pub returns : goal.returns
returns c = sym (prefix_len_is (λ digit. eqb digit 48) c.args.key.now (length c.args.key.now) 0 (omega arith) (λ k within. c.loop-index.invariant k (omega (arith, within))) (λ within. absurd (omega (arith, within))))
