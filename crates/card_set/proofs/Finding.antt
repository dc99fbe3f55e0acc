-- Lemmas on the first element of a list that passes a test.
use Rattle.std.proofs.Common.{Bool, List, Some, [], ap, arith, cond, false, filter, find, if◌then◌else◌, is_some, refl, suc, sym, true, zero, ℕ, ◌&&◌, ◌++◌, ◌+◌, ◌-◌, ◌<◌, ◌||◌, ◌∙◌, ◌∷◌, ◌≡◌, ◌≤◌, None}
use Rattle.std.proofs.lemmas.Bool.{false_from_ne_true, true≢false}
use Rattle.std.specs.List.{list_any, range_with_len}
use Rattle.std.proofs.lemmas.List.Folds.{list_any-append}
use Rattle.card_set.proofs.Any.{list_any-weaker}
use Rattle.card_set.proofs.Tests.{false_true, or_false}
use Rattle.std.proofs.lemmas.Option.{same_Some}
use Rattle.card_set.proofs.Options.{some_is_none}

found_by : {X : Type 0} (p : X → Bool) (x : X) (rest : List X) (b : Bool) → is_some (find p rest) ≡ list_any p rest → is_some (cond b (Some x) (find p rest)) ≡ (b || list_any p rest)
found_by p x rest true later = refl
found_by p x rest false later = later

-- something is found if something passes
pub some_found : {X : Type 0} (p : X → Bool) (xs : List X) → is_some (find p xs) ≡ list_any p xs
some_found p [] = refl
some_found p (x ∷ xs) = found_by p x xs (p x) (some_found p xs)

-- a stronger test passes nowhere if a weaker one does not
pub none_stronger : {X : Type 0} (p q : X → Bool) → ((x : X) → p x ≡ true → q x ≡ true) → (xs : List X) → list_any q xs ≡ false → list_any p xs ≡ false
none_stronger p q h xs none = false_from_ne_true (list_any p xs) (λ some. true≢false (sym (list_any-weaker p q h xs some) ∙ none))

-- one more element at the end
pub list_any-push : {X : Type 0} (p : X → Bool) (xs : List X) (x : X) → list_any p (xs ++ x ∷ []) ≡ (list_any p xs || p x)
list_any-push p xs x = list_any-append p xs (x ∷ []) ∙ ap (λ b. list_any p xs || b) (or_false (p x))

-- tests that agree at each number
pub any_agree : (p q : ℕ → Bool) (first n : ℕ) → ((k : ℕ) → first ≤ k → k < first + n → p k ≡ q k) → list_any p (range_with_len first n) ≡ list_any q (range_with_len first n)
any_agree p q first zero h = refl
any_agree p q first (suc n) h =
    ap (λ b. b || list_any p (range_with_len (first + 1) n)) (h first (omega arith) (omega arith))
    ∙ ap (λ b. q first || b) (any_agree p q (first + 1) n (λ k low high. h k (omega (arith, low)) (omega (arith, high))))

pub find_agree : (p q : ℕ → Bool) (first n : ℕ) → ((k : ℕ) → first ≤ k → k < first + n → p k ≡ q k) → find p (range_with_len first n) ≡ find q (range_with_len first n)
find_agree p q first zero h = refl
find_agree p q first (suc n) h =
    ap (λ b. cond b (Some first) (find p (range_with_len (first + 1) n))) (h first (omega arith) (omega arith))
    ∙ ap (λ o. cond (q first) (Some first) o) (find_agree p q (first + 1) n (λ k low high. h k (omega (arith, low)) (omega (arith, high))))

-- the first of the numbers, or the first of the others
pub find_step : (p : ℕ → Bool) (first count : ℕ) → 1 ≤ count → find p (range_with_len first count) ≡ cond (p first) (Some first) (find p (range_with_len (first + 1) (count - 1)))
find_step p first zero some = absurd (omega (arith, some))
find_step p first (suc count) some =
    let same : count ≡ suc count - 1 = omega arith in
    ap (λ n. cond (p first) (Some first) (find p (range_with_len (first + 1) n))) same

-- numbers in a row, in two parts
pub range_split : (first a b : ℕ) → range_with_len first (a + b) ≡ range_with_len first a ++ range_with_len (first + a) b
range_split first zero b =
    let none : 0 + b ≡ b = omega arith in
    let same : first ≡ first + 0 = omega arith in
    ap (range_with_len first) none ∙ ap (λ n. range_with_len n b) same
range_split first (suc a) b =
    let more : suc a + b ≡ suc (a + b) = omega arith in
    let same : first + 1 + a ≡ first + suc a = omega arith in
    ap (range_with_len first) more
    ∙ ap (λ xs. first ∷ xs) (range_split (first + 1) a b ∙ ap (λ n. range_with_len (first + 1) a ++ range_with_len n b) same)

-- the first of those that pass one test and another
find_kept : {X : Type 0} (p q : X → Bool) (x : X) (rest : List X) (b : Bool) → find q (filter p rest) ≡ find (λ y. p y && q y) rest → find q (cond b (x ∷ filter p rest) (filter p rest)) ≡ cond (b && q x) (Some x) (find (λ y. p y && q y) rest)
find_kept p q x rest true later = ap (λ o. cond (q x) (Some x) o) later
find_kept p q x rest false later = later

pub find-filter : {X : Type 0} (p q : X → Bool) (xs : List X) → find q (filter p xs) ≡ find (λ x. p x && q x) xs
find-filter p q [] = refl
find-filter p q (x ∷ xs) = find_kept p q x xs (p x) (find-filter p q xs)

found_at : (p : ℕ → Bool) (first : ℕ) (rest : List ℕ) (number : ℕ) (b : Bool) → p first ≡ b → (find p rest ≡ Some number → p number ≡ true) → (if b then Some first else find p rest) ≡ Some number → p number ≡ true
found_at p first rest number true here later is = ap p (sym (same_Some first number is)) ∙ here
found_at p first rest number false here later is = later is

-- what is found passes
pub found_passes : (p : ℕ → Bool) (numbers : List ℕ) (number : ℕ) → find p numbers ≡ Some number → p number ≡ true
found_passes p [] number is = absurd (some_is_none (sym is))
found_passes p (first ∷ rest) number is = found_at p first rest number (p first) refl (found_passes p rest number) is

found_less : (p q : ℕ → Bool) (first : ℕ) (rest : List ℕ) (a b : Bool) → (b ≡ true → a ≡ true) → (is_some (find p rest) ≡ false → is_some (find q rest) ≡ false) → is_some (if a then Some first else find p rest) ≡ false → is_some (if b then Some first else find q rest) ≡ false
found_less p q first rest true b less later is = false_true (sym is)
found_less p q first rest false true less later is = false_true (less refl)
found_less p q first rest false false less later is = later is

-- a stronger test finds nothing if a weaker one does not
pub none_found_still : (p q : ℕ → Bool) (numbers : List ℕ) → ((number : ℕ) → q number ≡ true → p number ≡ true) → is_some (find p numbers) ≡ false → is_some (find q numbers) ≡ false
none_found_still p q [] less is = refl
none_found_still p q (number ∷ rest) less is = found_less p q number rest (p number) (q number) (less number) (none_found_still p q rest less) is

-- if some element passes, one is found
pub found_among : (p : ℕ → Bool) (xs : List ℕ) → list_any p xs ≡ true → find p xs ≡ None → ⊥
found_among p [] any none = false_true any
found_among p (x ∷ xs) any none = by_first (p x) any none (found_among p xs)
  where
    by_first : (b : Bool) → (b || list_any p xs) ≡ true → (cond b (Some x) (find p xs)) ≡ None → (list_any p xs ≡ true → find p xs ≡ None → ⊥) → ⊥
    by_first true any none later = absurd (some_is_none none)
    by_first false any none later = later any none
