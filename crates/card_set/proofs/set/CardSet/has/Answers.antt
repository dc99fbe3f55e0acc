use Rattle.std.proofs.Common.{ℕ, ◌==◌, ap, ◌∙◌}
use Rattle.std.specs.Int.{bit_at}
use Rattle.std.proofs.lemmas.Nat.Bits.{shr_and_one}
use Rattle.card_set.specs.CardSet.{is_in}
use Rattle.card_set.proofs.set.CardSet.has.Goals as goal

pub returns : goal.returns
unfolding is_in
returns c =
    ap (λ (n : ℕ). n == 1) (shr_and_one c.args.self.now.bits c.bit_of.result)
    ∙ ap (λ (k : ℕ). bit_at c.args.self.now.bits k == 1) c.bit_of.ensures.index
