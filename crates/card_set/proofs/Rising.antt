-- Lemmas on lists of numbers that rise.
use Rattle.std.proofs.Common.{List, Some, [], ap, arith, cond, filter, nat_lt, refl, slice_get, sym, ℕ, ⊎_elim, ◌+◌, ◌<◌, ◌∙◌, ◌∷◌, ◌≡◌, ◌≤◌}
use Rattle.std.proofs.lemmas.Bool.{cases_lt, le-ltb, lt-ltb}
use Rattle.std.proofs.lemmas.List.Elements.{All-cons, All-nil}
use Rattle.std.proofs.lemmas.List.Kept.{AllPairs-cons}
use Rattle.std.specs.Bool.{⊤}
use Rattle.std.specs.List.{All, AllPairs}

-- the numbers rise from low on
abbrev pub Rising : ℕ → List ℕ → Type 0
Rising low [] = ⊤
Rising low (x ∷ xs) = (low ≤ x) × Rising (x + 1) xs

-- a first number that is above the bound is kept
pub filter-above : (b z : ℕ) (zs : List ℕ) → b < z → filter (nat_lt b) (z ∷ zs) ≡ z ∷ filter (nat_lt b) zs
filter-above b z zs h =
    ap (λ t. cond t (z ∷ filter (nat_lt b) zs) (filter (nat_lt b) zs)) (lt-ltb b z h)

pub filter-not_above : (b z : ℕ) (zs : List ℕ) → z ≤ b → filter (nat_lt b) (z ∷ zs) ≡ filter (nat_lt b) zs
filter-not_above b z zs h =
    ap (λ t. cond t (z ∷ filter (nat_lt b) zs) (filter (nat_lt b) zs)) (le-ltb b z h)

-- rising numbers are all above what their first is above
pub filter-Rising : (b low : ℕ) (zs : List ℕ) → b < low → Rising low zs → filter (nat_lt b) zs ≡ zs
filter-Rising b low [] h r = refl
filter-Rising b low (z ∷ zs) h r =
    filter-above b z zs (omega arith) ∙ ap (λ xs. z ∷ xs) (filter-Rising b (z + 1) zs (omega arith) r.1)

-- in a list of rising numbers, if x is the first above b, the numbers above x are the others above
-- b
pub above_first : (b low x : ℕ) (zs rest : List ℕ)
    → Rising low zs
    → filter (nat_lt b) zs ≡ x ∷ rest
    → (b < x) × (filter (nat_lt x) zs ≡ rest)
above_first b low x [] rest r e = cc
above_first b low x (z ∷ zs) rest r e =
    ⊎_elim
    (λ (h : b < z).
    let f : z ∷ filter (nat_lt b) zs ≡ x ∷ rest = sym (filter-above b z zs h) ∙ e in
    let same : z ≡ x = cc in
    let tail : filter (nat_lt b) zs ≡ rest = cc in
    (omega arith, filter-not_above x z zs (omega arith) ∙ filter-Rising x (z + 1) zs (omega arith) r.1 ∙ sym (filter-Rising b (z + 1) zs (omega arith) r.1) ∙ tail))
    (λ (h : z ≤ b).
    let further = above_first b (z + 1) x zs rest r.1 (sym (filter-not_above b z zs h) ∙ e) in
    (further.0, filter-not_above x z zs (omega arith) ∙ further.1))
    (cases_lt b z)

-- the first above b, and the others
pub first_and_rest : (b low x : ℕ) (zs above : List ℕ)
    → filter (nat_lt b) zs ≡ above
    → slice_get above 0 ≡ Some x
    → (rest : List ℕ) × (filter (nat_lt b) zs ≡ x ∷ rest)
first_and_rest b low x zs [] e h = cc
first_and_rest b low x zs (y ∷ rest) e h = (rest, e ∙ ap (λ z. z ∷ rest) (let same : y ≡ x = cc in same))

-- rising numbers are in order
pub all_above : (x low : ℕ) (ys : List ℕ) → x < low → Rising low ys → All (λ y. x < y) ys
all_above x low [] l r = All-nil (λ y. x < y)
all_above x low (y ∷ ys) l r =
    All-cons (λ z. x < z) y ys (omega arith) (all_above x (y + 1) ys (omega arith) r.1)

pub pairs_rise : (low : ℕ) (xs : List ℕ) → Rising low xs → AllPairs (λ x y. x < y) xs
pairs_rise low [] r = λ i j d before inside. absurd (omega arith)
pairs_rise low (x ∷ xs) r =
    AllPairs-cons (λ y z. y < z) x xs (all_above x (x + 1) xs (omega arith) r.1) (pairs_rise (x + 1) xs r.1)
