-- What holds for each of six seats holds for every seat of the hand.
use Rattle.std.specs.Prelude.{ℕ, zero, suc, ◌≤◌}
use Rattle.std.proofs.Common.{arith}

pub by_six : (P : ℕ → Type 0) → P 1 → P 2 → P 3 → P 4 → P 5 → P 6 → (seat : ℕ) → 1 ≤ seat → seat ≤ 6 → P seat
by_six P first second third fourth fifth sixth zero least most = absurd (omega (arith, least))
by_six P first second third fourth fifth sixth (suc zero) least most = first
by_six P first second third fourth fifth sixth (suc (suc zero)) least most = second
by_six P first second third fourth fifth sixth (suc (suc (suc zero))) least most = third
by_six P first second third fourth fifth sixth (suc (suc (suc (suc zero)))) least most = fourth
by_six P first second third fourth fifth sixth (suc (suc (suc (suc (suc zero))))) least most = fifth
by_six P first second third fourth fifth sixth (suc (suc (suc (suc (suc (suc zero)))))) least most = sixth
by_six P first second third fourth fifth sixth (suc (suc (suc (suc (suc (suc (suc seat))))))) least most = absurd (omega (arith, most))
