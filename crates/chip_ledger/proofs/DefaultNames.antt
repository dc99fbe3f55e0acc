-- The default name of a seat: p and one digit, or p10.
use Rattle.std.proofs.Common.{List, ap, refl, ℕ, ◌+◌, ◌<◌, ◌∷◌, ◌≡◌, []}
use Rattle.std.proofs.lemmas.Fmt.{decimal_digit}
use Rattle.std.specs.Fmt.{digits}
use Rattle.chip_ledger.specs.SeatsSaid.{default_name}

-- one of the first nine seats
pub short_name : (seat : ℕ) → seat < 10 → default_name seat ≡ 112 ∷ (48 + seat) ∷ []
short_name seat few = ap (λ (rest : List ℕ). 112 ∷ rest) (decimal_digit seat few)

-- the tenth seat
pub long_name : (seat : ℕ) → seat ≡ 10 → default_name seat ≡ 112 ∷ 49 ∷ 48 ∷ []
unfolding digits
long_name seat last = rw last refl
