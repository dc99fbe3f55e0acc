-- A list that is read item by item keeps its number of items.
use Rattle.std.proofs.Common.{◌≡◌, ℕ, ◌+◌, List, [], ◌∷◌, length, Result, Ok, Err, refl, sym, ap, ◌∙◌, arith}
use Rattle.first_fault.specs.Reading.{◌>>=◌, each_from}

one_more : {F A : Type 0} (read : Result A F) (rest : Result (List A) F) (xs : List A) (n : ℕ) → (read >>= λ x. rest >>= λ ys. Ok (x ∷ ys)) ≡ Ok xs → ((ys : List A) → rest ≡ Ok ys → length ys ≡ n) → length xs ≡ n + 1
one_more (Err fault) rest xs n is each = absurd (cc)
one_more (Ok x) (Err fault) xs n is each = absurd (cc)
one_more (Ok x) (Ok ys) xs n is each = let same : x ∷ ys ≡ xs = cc in ap length (sym same) ∙ let count = each ys refl in omega (arith, count)

-- the same number of items
pub as_many : {F D A : Type 0} (form : ℕ → D → Result A F) (n : ℕ) (items : List D) (xs : List A) → each_from form n items ≡ Ok xs → length xs ≡ length items
unfolding each_from
as_many form n [] xs is = let same : [] ≡ xs = cc in ap length (sym same)
as_many form n (item ∷ rest) xs is = one_more (form n item) (each_from form (n + 1) rest) xs (length rest) is (λ ys read. as_many form (n + 1) rest ys read) ∙ omega arith
