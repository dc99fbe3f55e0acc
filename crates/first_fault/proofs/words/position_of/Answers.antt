use Rattle.std.proofs.Common.{sym, arith, length, eqb}
use Rattle.std.proofs.lemmas.List.Sums.{position_or_len_is}
use Rattle.first_fault.proofs.words.position_of.Goals as goal

pub returns-then-other-sign : goal.returns-then-other-sign
returns-then-other-sign c = sym (position_or_len_is (λ other. eqb other c.args.sign) c.args.text.now c.loop-index.index 0 (omega arith) c.loop-index.invariant (λ within. grind arith))

pub returns : goal.returns
returns c = sym (position_or_len_is (λ other. eqb other c.args.sign) c.args.text.now (length c.args.text.now) 0 (omega arith) (λ k within. c.loop-index.invariant k (omega (arith, within))) (λ within. absurd (omega (arith, within))))
