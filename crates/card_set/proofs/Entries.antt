-- Lemmas on the entries of a list: the one at an index, each of them, and the list in which one is
-- set.
use Rattle.std.proofs.Common.{List, None, Some, [], ap, arith, drop, get_or, length, refl, replicate, set, slice_get, suc, take, zero, ℕ, ◌++◌, ◌+◌, ◌-◌, ◌<◌, ◌∙◌, ◌∷◌, ◌≡◌, ◌≤◌, Bool, eqb, false, map, slice_index, slice_index_or, subst, sym, true, ◌≢◌, ⊎_elim, true≢false}
use Rattle.std.specs.List.{AllByRecursion, AllZip, list_all}
use Rattle.std.specs.Prelude.{All}
use Rattle.std.proofs.lemmas.Bool.{and_parts, cases_lt, eqb-true}
use Rattle.std.proofs.lemmas.Grind.{common_steps}
use Rattle.std.proofs.lemmas.List.{map_push, take_all, take_more, take_more_set}

-- what holds for each entry still holds if one of them is set to an entry for which it holds
pub set_each : {A : Type 0} (d : A) (P : ℕ → A → Type 0) (xs : List A) (i : ℕ) (x : A) → i < length xs → ((k : ℕ) → (k ≡ i → ⊥) → P k (get_or xs k d)) → P i x → (k : ℕ) → P k (get_or (set xs i x) k d)
set_each d P [] i x within each one k = absurd (omega (arith, within))
set_each d P (y ∷ xs) zero x within each one zero = one
set_each d P (y ∷ xs) zero x within each one (suc k) = each (suc k) (λ e. omega (arith, e))
set_each d P (y ∷ xs) (suc i) x within each one zero = each zero (λ e. omega (arith, e))
set_each d P (y ∷ xs) (suc i) x within each one (suc k) = set_each d (λ j. P (suc j)) xs i x (omega (arith, within)) (λ j other. each (suc j) (λ e. other (omega (arith, e)))) one k

-- a bounded number in a row of bounded numbers
pub set_bounded : (xs : List ℕ) (i x most : ℕ) → ((k : ℕ) → get_or xs k 0 ≤ most) → x ≤ most → (k : ℕ) → get_or (set xs i x) k 0 ≤ most
set_bounded [] i x most each few k = each k
set_bounded (y ∷ xs) zero x most each few zero = few
set_bounded (y ∷ xs) zero x most each few (suc k) = each (suc k)
set_bounded (y ∷ xs) (suc i) x most each few zero = each zero
set_bounded (y ∷ xs) (suc i) x most each few (suc k) = set_bounded xs i x most (λ j. each (suc j)) few k

-- a number in front of the zeros of a row
pub set_zeros : (xs : List ℕ) (i x : ℕ) → ((k : ℕ) → i ≤ k → get_or xs k 0 ≡ 0) → (k : ℕ) → i + 1 ≤ k → get_or (set xs i x) k 0 ≡ 0
set_zeros [] i x each k late = each k (omega arith)
set_zeros (y ∷ xs) zero x each zero late = absurd (omega arith)
set_zeros (y ∷ xs) zero x each (suc k) late = each (suc k) (omega arith)
set_zeros (y ∷ xs) (suc i) x each zero late = absurd (omega arith)
set_zeros (y ∷ xs) (suc i) x each (suc k) late = set_zeros xs i x (λ j h. each (suc j) (omega (arith, h))) k (omega (arith, late))

-- the first entries of a list of one value
pub take_same : {A : Type 0} (x : A) (n m : ℕ) → n ≤ m → take n (replicate m x) ≡ replicate n x
take_same x zero m few = refl
take_same x (suc n) zero few = absurd (omega (arith, few))
take_same x (suc n) (suc m) few = ap (λ rest. x ∷ rest) (take_same x n m (omega (arith, few)))

-- a list of zeros
all_zeros : (xs : List ℕ) → ((k : ℕ) → get_or xs k 0 ≡ 0) → xs ≡ replicate (length xs) 0
all_zeros [] none = refl
all_zeros (x ∷ xs) none = ap (λ y. y ∷ xs) (none zero) ∙ ap (λ rest. 0 ∷ rest) (all_zeros xs (λ k. none (suc k)))

-- a list with zeros from an index on is its numbers before that index, followed by zeros
pub cut_zeros : (xs : List ℕ) (n : ℕ) → n ≤ length xs → ((k : ℕ) → n ≤ k → get_or xs k 0 ≡ 0) → xs ≡ take n xs ++ replicate (length xs - n) 0
cut_zeros xs zero few none =
    let left : length xs - 0 ≡ length xs = omega arith in
    rw left (all_zeros xs (λ k. none k (omega arith)))
cut_zeros [] (suc n) few none = absurd (omega (arith, few))
cut_zeros (x ∷ xs) (suc n) few none =
    let left : length (x ∷ xs) - suc n ≡ length xs - n = omega arith in
    ap (λ rest. x ∷ rest) (cut_zeros xs n (omega (arith, few)) (λ k late. none (suc k) (omega (arith, late)))) ∙ rw left refl

-- four entries are all of a list of four
pub four_entries : (xs : List ℕ) → length xs ≡ 4 → get_or xs 0 0 ∷ get_or xs 1 0 ∷ get_or xs 2 0 ∷ get_or xs 3 0 ∷ [] ≡ xs
four_entries [] four = absurd (omega (arith, four))
four_entries (a ∷ []) four = absurd (omega (arith, four))
four_entries (a ∷ b ∷ []) four = absurd (omega (arith, four))
four_entries (a ∷ b ∷ c ∷ []) four = absurd (omega (arith, four))
four_entries (a ∷ b ∷ c ∷ d ∷ []) four = refl
four_entries (a ∷ b ∷ c ∷ d ∷ e ∷ more) four = absurd (omega (arith, four))

-- what holds for each of some elements and for one more holds for all of them
pub all_push : {X : Type 0} (P : X → Type 0) (xs : List X) (x : X) → AllByRecursion P xs → P x → AllByRecursion P (xs ++ x ∷ [])
all_push P [] x all one = (one, tt)
all_push P (y ∷ ys) x all one = (all.0, all_push P ys x all.1 one)

-- what holds for the first entries
pub each_taken : (P : ℕ → Type 0) (n : ℕ) (all : List ℕ) → n ≤ length all → ((k : ℕ) → k < n → P (get_or all k 0)) → AllByRecursion P (take n all)
each_taken P zero all within each = tt
each_taken P (suc n) [] within each = absurd (omega (arith, within))
each_taken P (suc n) (x ∷ rest) within each = (each 0 (omega arith), each_taken P n rest (omega (arith, within)) (λ k h. each (suc k) (omega (arith, h))))

-- after the end there is none
pub past_end : {A : Type 0} (xs : List A) (k : ℕ) → length xs ≤ k → slice_get xs k ≡ None
past_end [] k past = refl
past_end (x ∷ xs) zero past = absurd (omega (arith, past))
past_end (x ∷ xs) (suc k) past = past_end xs k (omega (arith, past))

-- the first of what is left
pub drop_first : {A : Type 0} (xs rest : List A) (index : ℕ) (x : A) → drop index xs ≡ x ∷ rest → (slice_get xs index ≡ Some x) × (drop (index + 1) xs ≡ rest)
drop_first [] rest zero x is = absurd cc
drop_first [] rest (suc index) x is = absurd cc
drop_first (y ∷ ys) rest zero x is = (cc, cc)
drop_first (y ∷ ys) rest (suc index) x is =
    let later = drop_first ys rest index x is in
    (later.0, ap (λ n. drop n (y ∷ ys)) (suc_later index) ∙ later.1)
  where
    suc_later : (n : ℕ) → suc n + 1 ≡ suc (n + 1)
    suc_later n = omega arith

-- what holds for the only entry
pub only : {X : Type 0} (P : X → Type 0) (x : X) → P x → All P (x ∷ [])
only P x is zero d inside = is
only P x is (suc k) d inside = absurd (omega (arith, inside))

-- pairs that are pushed
pub zip_push : {A B : Type 0} (R : A → B → Type 0) (xs : List A) (ys : List B) (x : A) (y : B) → AllZip R xs ys → R x y → AllZip R (xs ++ x ∷ []) (ys ++ y ∷ [])
zip_push R [] [] x y all more = (more, tt)
zip_push R [] (z ∷ ys) x y all more = absurd all
zip_push R (z ∷ xs) [] x y all more = absurd all
zip_push R (first ∷ xs) (second ∷ ys) x y all more = (all.0, zip_push R xs ys x y all.1 more)

-- lists that agree at their first entries, and have the default after these, agree at each index
pub same_entries : {X : Type 0} (d : X) (xs ys : List X) (count : ℕ)
    → ((n : ℕ) → 1 ≤ n → n ≤ count → get_or xs (n - 1) d ≡ get_or ys (n - 1) d)
    → ((k : ℕ) → count ≤ k → get_or xs k d ≡ d)
    → ((k : ℕ) → count ≤ k → get_or ys k d ≡ d)
    → (k : ℕ)
    → get_or xs k d ≡ get_or ys k d
same_entries {X} d xs ys count h f g k =
    ⊎_elim
    (λ (l : k < count).
    let P : ℕ → Type 0 = λ i. get_or xs i d ≡ get_or ys i d in
    subst P (omega arith) (h (k + 1) (omega arith) (omega arith)))
    (λ (l : count ≤ k). f k l ∙ sym (g k l))
    (cases_lt k count)

pub only_false : (n k : ℕ) → slice_index_or (replicate n false) k false ≡ false
only_false zero k = refl
only_false (suc n) zero = refl
only_false (suc n) (suc k) = only_false n k

-- the first of the zeros after a list is set
pub set_behind : (front : List ℕ) (n x z : ℕ) → set (front ++ replicate (suc n) z) (length front) x ≡ front ++ x ∷ replicate n z
set_behind [] n x z = refl
set_behind (y ∷ front) n x z = ap (λ rest. y ∷ rest) (set_behind front n x z)

pub set_at : (front : List ℕ) (i n x z : ℕ) → length front ≡ i → set (front ++ replicate (suc n) z) i x ≡ front ++ x ∷ replicate n z
set_at front i n x z is = rw (sym is) (set_behind front n x z)

-- what holds for each number holds at each index, if it holds for 0
pub each_at : (most : ℕ) (xs : List ℕ) → AllByRecursion (λ x. x ≤ most) xs → (k : ℕ) → get_or xs k 0 ≤ most
each_at most [] all k = omega arith
each_at most (x ∷ xs) all zero = all.0
each_at most (x ∷ xs) all (suc k) = each_at most xs all.1 k

pub any_default : (xs : List ℕ) (k d e : ℕ) → k < length xs → get_or xs k d ≡ get_or xs k e
any_default [] k d e within = absurd (omega (arith, within))
any_default (x ∷ rest) zero d e within = refl
any_default (x ∷ rest) (suc k) d e within = any_default rest k d e (omega (arith, within))

pub past_default : (xs : List ℕ) (k d : ℕ) → length xs ≤ k → get_or xs k d ≡ d
past_default [] k d past = refl
past_default (x ∷ rest) zero d past = absurd (omega (arith, past))
past_default (x ∷ rest) (suc k) d past = past_default rest k d (omega (arith, past))

pub zero_taken_at : (n : ℕ) (xs : List ℕ) (k : ℕ) → k < n → get_or (take n xs) k 0 ≡ get_or xs k 0
zero_taken_at zero xs k within = absurd (omega (arith, within))
zero_taken_at (suc n) [] k within = refl
zero_taken_at (suc n) (x ∷ xs) zero within = refl
zero_taken_at (suc n) (x ∷ xs) (suc k) within = zero_taken_at n xs k (omega (arith, within))

pub taken_at : {X : Type 0} (n : ℕ) (xs : List X) (k : ℕ) (d : X) → k < n → get_or (take n xs) k d ≡ get_or xs k d
taken_at zero xs k d within = absurd (omega (arith, within))
taken_at (suc n) [] k d within = refl
taken_at (suc n) (x ∷ xs) zero d within = refl
taken_at (suc n) (x ∷ xs) (suc k) d within = taken_at n xs k d (omega (arith, within))

pub there : {X : Type 0} (xs : List X) (k : ℕ) (d : X) → k < length xs → slice_get xs k ≡ Some (get_or xs k d)
there [] k d within = absurd (omega (arith, within))
there (x ∷ xs) zero d within = refl
there (x ∷ xs) (suc k) d within = there xs k d (omega (arith, within))

-- the item at an index within
pub at_index : {X : Type 0} (xs : List X) (i : ℕ) (x : X) → i < length xs → x ≡ get_or xs i x → slice_get xs i ≡ Some x
at_index [] i x within is = absurd (omega (arith, within))
at_index (y ∷ xs) zero x within is = ap Some (sym is)
at_index (y ∷ xs) (suc i) x within is = at_index xs i x (omega (arith, within)) is

-- another item
pub at_other : {X : Type 0} (xs : List X) (i j : ℕ) (y : X) → j ≢ i → slice_get (set xs i y) j ≡ slice_get xs j
at_other [] i j y apart = refl
at_other (z ∷ xs) zero zero y apart = absurd (apart refl)
at_other (z ∷ xs) zero (suc j) y apart = refl
at_other (z ∷ xs) (suc i) zero y apart = refl
at_other (z ∷ xs) (suc i) (suc j) y apart = at_other xs i j y (λ same. apart (ap suc same))

-- the item that was set
pub at_set : {X : Type 0} (xs : List X) (i : ℕ) (x y : X) → slice_get (set xs i y) i ≡ Some x → x ≡ y
at_set [] i x y is = absurd (cc)
at_set (z ∷ xs) zero x y is = cc
at_set (z ∷ xs) (suc i) x y is = at_set xs i x y is

-- all numbers
pub all_taken : {P Q : Type 0} (see : P → Q) (f : Q → ℕ) (xs : List ℕ) (ps : List P) (i : ℕ)
    → i ≡ length ps → take i xs ≡ map f (map see (take i ps)) → take (length ps) xs ≡ map f (map see ps)
all_taken see f xs ps i whole so_far =
    ap (λ n. take n xs) (sym whole) ∙ so_far ∙ ap (λ n. map f (map see (take n ps))) whole ∙ ap (λ rest. map f (map see rest)) (take_all (length ps) ps (omega arith))

-- one more number
pub one_more_taken : {P Q : Type 0} (see : P → Q) (f : Q → ℕ) (xs : List ℕ) (ps : List P) (i : ℕ) (p : P)
    → i < length xs → i < length ps → get_or ps i p ≡ p → take i xs ≡ map f (map see (take i ps))
    → take (i + 1) (set xs i (f (see p))) ≡ map f (map see (take (i + 1) ps))
one_more_taken see f xs ps i p within inside at so_far =
    let whole : map f (map see (take (i + 1) ps)) ≡ map f (map see (take i ps)) ++ f (see p) ∷ [] =
    rw (take_more ps i p inside, at, map_push see (take i ps) p) (map_push f (map see (take i ps)) (see p)) in
    take_more_set xs i (f (see p)) within ∙ ap (λ front. front ++ f (see p) ∷ []) so_far ∙ sym whole

-- the first numbers of a list say as much as the list, if only zeros come after them
pub at_taken : (numbers : List ℕ) (count k : ℕ) → ((j : ℕ) → count ≤ j → slice_index numbers j ≡ 0) → slice_index (take count numbers) k ≡ slice_index numbers k
at_taken numbers count k zeros = grind (arith, common_steps, zeros k)

pub taken_within : (n : ℕ) (all : List ℕ) (P : ℕ → Type 0) → n ≤ length all → ((k : ℕ) → k < n → P (get_or all k 0)) → (k : ℕ) → k < length (take n all) → P (get_or (take n all) k 0)
taken_within zero all P few each k within = absurd (omega (arith, within))
taken_within (suc n) [] P few each k within = absurd (omega (arith, few))
taken_within (suc n) (x ∷ all) P few each zero within = each 0 (omega arith)
taken_within (suc n) (x ∷ all) P few each (suc k) within = taken_within n all P (omega (arith, few)) (λ j h. each (suc j) (omega (arith, h))) k (omega (arith, within))

pub less_taken : (n : ℕ) (xs ys : List ℕ) → n ≤ length xs → n ≤ length ys → ((k : ℕ) → get_or xs k 0 ≤ get_or ys k 0) → (k : ℕ) → get_or (take n xs) k 0 ≤ get_or (take n ys) k 0
less_taken zero xs ys few many less k = omega arith
less_taken (suc n) [] ys few many less k = absurd (omega (arith, few))
less_taken (suc n) (x ∷ xs) [] few many less k = absurd (omega (arith, many))
less_taken (suc n) (x ∷ xs) (y ∷ ys) few many less zero = less zero
less_taken (suc n) (x ∷ xs) (y ∷ ys) few many less (suc k) = less_taken n xs ys (omega (arith, few)) (omega (arith, many)) (λ j. less (suc j)) k

pub taken_zeros : (n : ℕ) (all : List ℕ) → n ≤ length all → ((k : ℕ) → get_or all k 0 ≡ 0) → take n all ≡ replicate n 0
taken_zeros zero all few none = refl
taken_zeros (suc n) [] few none = absurd (omega (arith, few))
taken_zeros (suc n) (x ∷ rest) few none = ap (λ y. y ∷ take n rest) (none 0) ∙ ap (λ (zeros : List ℕ). 0 ∷ zeros) (taken_zeros n rest (omega (arith, few)) (λ k. none (suc k)))

pub at_length : {A : Type 0} (front : List A) (x : A) (rest : List A) → slice_get (front ++ x ∷ rest) (length front) ≡ Some x
at_length [] x rest = refl
at_length (y ∷ front) x rest = at_length front x rest

pub differs : (p : ℕ → Bool) (b sign : ℕ) (same : Bool) → eqb b sign ≡ same → p sign ≡ false → p b ≡ true → same ≡ false
differs p b sign true is fails holds = absurd (true≢false (sym holds ∙ ap p (eqb-true b sign is) ∙ fails))
differs p b sign false is fails holds = refl

pub never_at : (p : ℕ → Bool) (sign : ℕ) (text : List ℕ) → p sign ≡ false → list_all p text ≡ true → (k d : ℕ) → k < length text → eqb (get_or text k d) sign ≡ false
never_at p sign [] fails all k d within = absurd (omega (arith, within))
never_at p sign (b ∷ rest) fails all zero d within = differs p b sign (eqb b sign) refl fails (and_parts (p b) (list_all p rest) all).0
never_at p sign (b ∷ rest) fails all (suc k) d within = never_at p sign rest fails (and_parts (p b) (list_all p rest) all).1 k d (omega (arith, within))

-- one of the first numbers of a list
pub index_taken_at : (amounts : List ℕ) (count k : ℕ) → k < count → slice_index (take count amounts) k ≡ slice_index amounts k
index_taken_at amounts zero k within = absurd (omega (arith, within))
index_taken_at [] (suc count) k within = refl
index_taken_at (amount ∷ amounts) (suc count) zero within = refl
index_taken_at (amount ∷ amounts) (suc count) (suc k) within = index_taken_at amounts count k (omega (arith, within))
