-- One more draw.
use Rattle.std.proofs.Common.{◌≡◌, ℕ, zero, suc, ◌+◌, refl, ap, ◌∙◌, arith}
use Rattle.hand_gen.specs.Draws.{next_number, number_after}

after_suc : (count number : ℕ) → number_after (suc count) number ≡ next_number (number_after count number)
after_suc zero number = refl
after_suc (suc count) number = after_suc count (next_number number)

-- the number after one more draw is the next one
pub one_draw_more : (count number : ℕ) → number_after (count + 1) number ≡ next_number (number_after count number)
one_draw_more count number =
    let more : count + 1 ≡ suc count = omega arith in
    ap (λ n. number_after n number) more ∙ after_suc count number
