-- Lists without a first number at which they differ are equal.
use Rattle.std.proofs.Common.{◌≡◌, ℕ, zero, suc, ◌+◌, ◌-◌, ◌<◌, max, Bool, true, false, not, cond, ◌&&◌, List, [], ◌∷◌, length, map, find, slice_get, Option, Some, None, refl, sym, ap, ◌∙◌, arith}
use Rattle.std.specs.List.{range_with_len}
use Rattle.card_set.proofs.Finding.{find_step}
use Rattle.card_set.proofs.NumbersOfRange.{find_nothing}
use Rattle.card_set.proofs.Options.{some_is_none}
use Rattle.card_set.proofs.Tests.{not_not}
use Rattle.hand_differences.proofs.ExactTests.{IsExact, exact_options}
use Rattle.hand_differences.specs.FirstNumbers.{first_other_number, is_same_at}
use Rattle.hand_differences.specs.SameParts.{are_same_entries}

-- lists with the same entries are equal
same_lists : {A : Type 0} (xs ys : List A) → ((index : ℕ) → index < max (length xs) (length ys) → slice_get xs index ≡ slice_get ys index) → xs ≡ ys
same_lists [] [] same = refl
same_lists [] (y ∷ ys) same = absurd (some_is_none (sym (same 0 (omega arith))))
same_lists (x ∷ xs) [] same = absurd (some_is_none (same 0 (omega arith)))
same_lists (x ∷ xs) (y ∷ ys) same =
    let head : x ≡ y = let here : Some x ≡ Some y = same 0 (omega arith) in cc in
    ap (λ z. z ∷ xs) head ∙ ap (λ zs. y ∷ zs) (same_lists xs ys (λ index within. same (suc index) (omega (arith, within))))

-- where a test never holds, nothing is found
pub find_never : (p : ℕ → Bool) (first count : ℕ) → ((k : ℕ) → p k ≡ false) → find p (range_with_len first count) ≡ None
find_never p first zero never = refl
find_never p first (suc count) never = ap (λ b. cond b (Some first) (find p (range_with_len (first + 1) count))) (never first) ∙ find_never p (first + 1) count never

-- a list has no such number with itself
pub none_of_same : {A : Type 0} (same : A → A → Bool) → IsExact same → (xs : List A) → first_other_number same xs xs ≡ None
none_of_same same exact xs =
    find_never (λ number. not (is_same_at same xs xs number)) 1 (max (length xs) (length xs)) (λ number.
    ap not ((exact_options same exact).own (slice_get xs (number - 1))))

-- and lists that have none are equal
pub same_of_none : {A : Type 0} (same : A → A → Bool) → IsExact same → (xs ys : List A) → first_other_number same xs ys ≡ None → xs ≡ ys
same_of_none same exact xs ys none =
    same_lists xs ys (λ index within.
    let here : index + 1 - 1 ≡ index = omega arith in
    let passes : is_same_at same xs ys (index + 1) ≡ true =
    not_not (is_same_at same xs ys (index + 1)) (find_nothing (λ number. not (is_same_at same xs ys number)) 1 (max (length xs) (length ys)) none (index + 1) (omega arith) (omega (arith, within))) in
    ap (slice_get xs) (sym here) ∙ (exact_options same exact).one (slice_get xs (index + 1 - 1)) (slice_get ys (index + 1 - 1)) passes ∙ ap (slice_get ys) here)

-- if a number is passed over, the first one comes later
pub next_number : (p : ℕ → Bool) (index count : ℕ) {found : Option ℕ} → index < count → p (index + 1) ≡ false → find p (range_with_len (index + 1) (count - index)) ≡ found → find p (range_with_len (index + 1 + 1) (count - (index + 1))) ≡ found
next_number p index count {found} within passed is =
    let fewer : count - index - 1 ≡ count - (index + 1) = omega arith in
    let step : find p (range_with_len (index + 1) (count - index)) ≡ find p (range_with_len (index + 1 + 1) (count - (index + 1))) =
    find_step p (index + 1) (count - index) (omega (arith, within))
    ∙ ap (λ b. cond b (Some (index + 1)) (find p (range_with_len (index + 1 + 1) (count - index - 1)))) passed
    ∙ ap (λ n. find p (range_with_len (index + 1 + 1) n)) fewer in
    sym step ∙ is

-- if two entries are the same, the lists are the same if the later entries are
pub next_entry : {B : Type 0} (same : B → B → Bool) (f g : ℕ → B) (index count : ℕ) {whole : Bool} → index < count → same (f (index + 1)) (g (index + 1)) ≡ true
    → are_same_entries same (map f (range_with_len (index + 1) (count - index))) (map g (range_with_len (index + 1) (count - index))) ≡ whole
    → are_same_entries same (map f (range_with_len (index + 1 + 1) (count - (index + 1)))) (map g (range_with_len (index + 1 + 1) (count - (index + 1)))) ≡ whole
next_entry same f g index count {whole} within passed is =
    let left : ℕ = count - (index + 1) in
    let more : count - index ≡ suc left = omega (arith, within) in
    let step : are_same_entries same (map f (range_with_len (index + 1) (count - index))) (map g (range_with_len (index + 1) (count - index))) ≡ are_same_entries same (map f (range_with_len (index + 1 + 1) left)) (map g (range_with_len (index + 1 + 1) left)) =
    ap (λ n. are_same_entries same (map f (range_with_len (index + 1) n)) (map g (range_with_len (index + 1) n))) more
    ∙ ap (λ b. b && are_same_entries same (map f (range_with_len (index + 1 + 1) left)) (map g (range_with_len (index + 1 + 1) left))) passed in
    sym step ∙ is
