use Rattle.std.proofs.Common.{ℕ, ◌==◌, ap}
use Rattle.std.proofs.lemmas.Nat.Bits.{bit_at-zero}
use Rattle.card_set.specs.CardSet.{is_in, bit_index}
use Rattle.card_set.proofs.set.CardSet.empty.Goals as goal

pub returns : goal.returns
unfolding is_in
returns c = λ card. ap (λ (n : ℕ). n == 1) (bit_at-zero (bit_index card))
