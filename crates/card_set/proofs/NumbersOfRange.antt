-- What holds for each number of a range holds for the lists that are made over it.
use Rattle.std.proofs.lemmas.Bool.{cases_eq, cases_lt, eq-eqb, ne_eqb, or_cases, or_from, or_left, or_parts, or_right, and_parts, eqb-true}
use Rattle.std.proofs.Common.{Bool, List, Some, [], ap, arith, false, filter, find, if◌then◌else◌, inl, inr, is_some, map, refl, suc, sum, sum_by, sym, true, zero, ℕ, ⊎_elim, ◌++◌, ◌+◌, ◌<◌, ◌==◌, ◌||◌, ◌∙◌, ◌∷◌, ◌≡◌, ◌≤◌, None, ap₂, cond, get_or, length, slice_index, take, ◌&&◌, ◌-◌, true≢false}
use Rattle.std.specs.List.{flat_map, list_any, range_with_len, list_all}
use Rattle.std.proofs.lemmas.Option.{same_Some}
use Rattle.card_set.proofs.Options.{some_is_none}
use Rattle.card_set.proofs.Tests.{false_true}
use Rattle.std.proofs.lemmas.List.Sums.{sum-map, sum_by-cons}
use Rattle.std.proofs.lemmas.List.{append-nil, append_assoc}
use Rattle.std.proofs.lemmas.Bool.Decides.{nat_tests}

-- lists that agree for each number, one after another
pub flat_same : {B : Type 0} (f g : ℕ → List B) (first count : ℕ) → ((number : ℕ) → first ≤ number → number < first + count → f number ≡ g number) → flat_map f (range_with_len first count) ≡ flat_map g (range_with_len first count)
flat_same f g first zero same = refl
flat_same f g first (suc count) same =
    ap (λ l. l ++ flat_map f (range_with_len (first + 1) count)) (same first (omega arith) (omega arith))
    ∙ ap (λ l. g first ++ l) (flat_same f g (first + 1) count (λ number from to. same number (omega (arith, from)) (omega (arith, to))))

map_step : {B : Type 0} (f g : ℕ → B) (first : ℕ) (rest : List ℕ) (b : Bool) → f first ≡ g first → map f rest ≡ map g rest → map f (if b then (first ∷ rest) else rest) ≡ map g (if b then (first ∷ rest) else rest)
map_step f g first rest true same later = ap (λ x. x ∷ map f rest) same ∙ ap (λ l. g first ∷ l) later
map_step f g first rest false same later = later

-- values that agree for each number
pub map_same : {B : Type 0} (f g : ℕ → B) (p : ℕ → Bool) (first count : ℕ) → ((number : ℕ) → first ≤ number → number < first + count → f number ≡ g number) → map f (filter p (range_with_len first count)) ≡ map g (filter p (range_with_len first count))
map_same f g p first zero same = refl
map_same f g p first (suc count) same =
    map_step f g first (filter p (range_with_len (first + 1) count)) (p first) (same first (omega arith) (omega arith)) (map_same f g p (first + 1) count (λ number from to. same number (omega (arith, from)) (omega (arith, to))))

-- tests that agree for each number keep the same numbers
pub filter_range : (p q : ℕ → Bool) (first count : ℕ) → ((number : ℕ) → first ≤ number → number < first + count → p number ≡ q number) → filter p (range_with_len first count) ≡ filter q (range_with_len first count)
filter_range p q first zero same = refl
filter_range p q first (suc count) same =
    ap (λ b. if b then (first ∷ filter p (range_with_len (first + 1) count)) else filter p (range_with_len (first + 1) count)) (same first (omega arith) (omega arith))
    ∙ ap (λ l. if q first then (first ∷ l) else l) (filter_range p q (first + 1) count (λ number from to. same number (omega (arith, from)) (omega (arith, to))))

-- a test that passes for no number
pub any_none : (p : ℕ → Bool) (first count : ℕ) → ((number : ℕ) → first ≤ number → number < first + count → p number ≡ false) → list_any p (range_with_len first count) ≡ false
any_none p first zero never = refl
any_none p first (suc count) never =
    ap (λ b. b || list_any p (range_with_len (first + 1) count)) (never first (omega arith) (omega arith)) ∙ any_none p (first + 1) count (λ number from to. never number (omega (arith, from)) (omega (arith, to)))

-- such a test finds none
pub find_no : (p : ℕ → Bool) (first count : ℕ) → ((number : ℕ) → first ≤ number → number < first + count → p number ≡ false) → is_some (find p (range_with_len first count)) ≡ false
find_no p first zero never = refl
find_no p first (suc count) never =
    ap (λ b. is_some (if b then Some first else find p (range_with_len (first + 1) count))) (never first (omega arith) (omega arith)) ∙ find_no p (first + 1) count (λ number from to. never number (omega (arith, from)) (omega (arith, to)))

-- lists that are empty for each number
pub flat_none : {B : Type 0} (f : ℕ → List B) (first count : ℕ) → ((number : ℕ) → first ≤ number → number < first + count → f number ≡ []) → flat_map f (range_with_len first count) ≡ []
flat_none f first zero never = refl
flat_none f first (suc count) never =
    ap (λ l. l ++ flat_map f (range_with_len (first + 1) count)) (never first (omega arith) (omega arith)) ∙ flat_none f (first + 1) count (λ number from to. never number (omega (arith, from)) (omega (arith, to)))

-- a test that passes at a number passes at some number
pub any_in_range : (p : ℕ → Bool) (first count number : ℕ) → first ≤ number → number < first + count → p number ≡ true → list_any p (range_with_len first count) ≡ true
any_in_range p first zero number least most is = absurd (omega (arith, least, most))
any_in_range p first (suc count) number least most is = elim (cases_eq number first) [
  | inl same ↦ or_left (p first) (list_any p (range_with_len (first + 1) count)) (ap p (sym same) ∙ is)
  | inr differ ↦ or_right (p first) (list_any p (range_with_len (first + 1) count)) (any_in_range p (first + 1) count number (above least differ) (omega (arith, most)) is)
]
  where
    above : first ≤ number → (number ≡ first → ⊥) → first + 1 ≤ number
    above least differ = elim (cases_lt first number) [ inl more ↦ omega (arith, more) | inr less ↦ absurd (differ (omega (arith, less, least))) ]

-- what passes nowhere in a range passes at none of its numbers
pub at_range : (p : ℕ → Bool) (first count number : ℕ) → list_any p (range_with_len first count) ≡ false → first ≤ number → number < first + count → p number ≡ false
at_range p first zero number is least most = absurd (omega (arith, least, most))
at_range p first (suc count) number is least most =
    let parts = or_parts (p first) (list_any p (range_with_len (first + 1) count)) is in
    elim (cases_lt first number) [
      | inl above ↦ at_range p (first + 1) count number parts.1 (omega (arith, above)) (omega (arith, most))
      | inr below ↦ let same : number ≡ first = omega (arith, below, least) in ap p same ∙ parts.0
    ]

found_here : (p : ℕ → Bool) (first count number : ℕ) (b : Bool) → p first ≡ b → (find p (range_with_len (first + 1) count) ≡ Some number → (p number ≡ true) × ((first + 1 ≤ number) × (number < (first + 1) + count))) → (if b then Some first else find p (range_with_len (first + 1) count)) ≡ Some number → (p number ≡ true) × ((first ≤ number) × (number < first + suc count))
found_here p first count number true here later is =
    let same : first ≡ number = same_Some first number is in (ap p (sym same) ∙ here, (omega (arith, same), omega (arith, same)))
found_here p first count number false here later is = let it = later is in (it.0, (omega (arith, it.1.0), omega (arith, it.1.1)))

-- what is found in a range passes, and is of the range
pub found_in_range : (p : ℕ → Bool) (first count number : ℕ) → find p (range_with_len first count) ≡ Some number → (p number ≡ true) × ((first ≤ number) × (number < first + count))
found_in_range p first zero number is = absurd (some_is_none (sym is))
found_in_range p first (suc count) number is = found_here p first count number (p first) refl (found_in_range p (first + 1) count number) is

find_none_from : (p : ℕ → Bool) (first count number : ℕ) (b : Bool) → p first ≡ b → (is_some (find p (range_with_len (first + 1) count)) ≡ false → first < number → p number ≡ false) → first ≤ number → is_some (if b then Some first else find p (range_with_len (first + 1) count)) ≡ false → p number ≡ false
find_none_from p first count number true here later least none = false_true (sym none)
find_none_from p first count number false here later least none = elim (cases_lt first number) [
  | inl above ↦ later none above
  | inr below ↦ let same : number ≡ first = omega (arith, below, least) in ap p same ∙ here
]

-- what is found nowhere in a range passes nowhere in it
pub find_none : (p : ℕ → Bool) (first count number : ℕ) → is_some (find p (range_with_len first count)) ≡ false → first ≤ number → number < first + count → p number ≡ false
find_none p first zero number is least most = absurd (omega (arith, least, most))
find_none p first (suc count) number is least most = find_none_from p first count number (p first) refl (λ none above. find_none p (first + 1) count number none (omega (arith, above)) (omega (arith, most))) least is

-- the first number that passes is found
pub find_first : (p : ℕ → Bool) (start count number : ℕ) → start ≤ number → number < start + count → p number ≡ true → ((other : ℕ) → start ≤ other → other < number → p other ≡ false) → find p (range_with_len start count) ≡ Some number
find_first p start zero number least most is none = absurd (omega (arith, least, most))
find_first p start (suc count) number least most is none = elim (cases_lt start number) [
  | inl above ↦ ap (λ b. if b then Some start else find p (range_with_len (start + 1) count)) (none start (omega arith) above)
      ∙ find_first p (start + 1) count number (omega (arith, above)) (omega (arith, most)) is (λ other from to. none other (omega (arith, from)) to)
  | inr below ↦
      let same : start ≡ number = omega (arith, below, least) in
      ap (λ b. if b then Some start else find p (range_with_len (start + 1) count)) (ap p same ∙ is) ∙ ap Some same
]

-- if some number of a range passes, this one does
pub some_in_range : (p : ℕ → Bool) (start count : ℕ) → list_any p (range_with_len start count) ≡ true → (number : ℕ) × ((start ≤ number) × ((number < start + count) × (p number ≡ true)))
some_in_range p start zero is = false_true is
some_in_range p start (suc count) is = elim (or_cases (p start) (list_any p (range_with_len (start + 1) count)) is) [
  | inl here ↦ (start, (omega arith, (omega arith, here)))
  | inr later ↦ let it = some_in_range p (start + 1) count later in (it.0, (omega (arith, it.1.0), (omega (arith, it.1.1.0), it.1.1.1)))
]

any_step : (f g : ℕ → Bool) (first : ℕ) (rest : List ℕ) (b : Bool) → (b ≡ true → f first ≡ g first) → list_any f rest ≡ list_any g rest → list_any f (if b then (first ∷ rest) else rest) ≡ list_any g (if b then (first ∷ rest) else rest)
any_step f g first rest true same later = ap (λ b. b || list_any f rest) (same refl) ∙ ap (λ r. g first || r) later
any_step f g first rest false same later = later

-- tests that agree wherever another passes pass alike on what it keeps
pub any_same : (p f g : ℕ → Bool) (start count : ℕ) → ((number : ℕ) → start ≤ number → number < start + count → p number ≡ true → f number ≡ g number) → list_any f (filter p (range_with_len start count)) ≡ list_any g (filter p (range_with_len start count))
any_same p f g start zero same = refl
any_same p f g start (suc count) same =
    any_step f g start (filter p (range_with_len (start + 1) count)) (p start) (same start (omega arith) (omega arith))
    (any_same p f g (start + 1) count (λ number least most. same number (omega (arith, least)) (omega (arith, most))))

find_step : (f g : ℕ → Bool) (first : ℕ) (rest : List ℕ) (b : Bool) → (b ≡ true → f first ≡ g first) → find f rest ≡ find g rest → find f (if b then (first ∷ rest) else rest) ≡ find g (if b then (first ∷ rest) else rest)
find_step f g first rest true same later = ap (λ b. if b then Some first else find f rest) (same refl) ∙ ap (λ r. if g first then Some first else r) later
find_step f g first rest false same later = later

-- and find the same
pub find_same : (p f g : ℕ → Bool) (start count : ℕ) → ((number : ℕ) → start ≤ number → number < start + count → p number ≡ true → f number ≡ g number) → find f (filter p (range_with_len start count)) ≡ find g (filter p (range_with_len start count))
find_same p f g start zero same = refl
find_same p f g start (suc count) same =
    find_step f g start (filter p (range_with_len (start + 1) count)) (p start) (same start (omega arith) (omega arith))
    (find_same p f g (start + 1) count (λ number least most. same number (omega (arith, least)) (omega (arith, most))))

-- if no kept number passes a second test, no number that passes the first does
pub none_kept_passes : (p q : ℕ → Bool) (start count number : ℕ) → list_any q (filter p (range_with_len start count)) ≡ false → start ≤ number → number < start + count → p number ≡ true → q number ≡ false
none_kept_passes p q start zero number is least most passes = absurd (omega (arith, least, most))
none_kept_passes p q start (suc count) number is least most passes = by_first (p start) refl (none_kept_passes p q (start + 1) count number) is
  where
    by_first : (b : Bool) → p start ≡ b → (list_any q (filter p (range_with_len (start + 1) count)) ≡ false → start + 1 ≤ number → number < (start + 1) + count → p number ≡ true → q number ≡ false) → list_any q (if b then (start ∷ filter p (range_with_len (start + 1) count)) else filter p (range_with_len (start + 1) count)) ≡ false → q number ≡ false
    by_first true here later none =
        let parts = or_parts (q start) (list_any q (filter p (range_with_len (start + 1) count))) none in
        elim (cases_lt start number) [
          | inl above ↦ later parts.1 (omega (arith, above)) (omega (arith, most)) passes
          | inr below ↦ let same : number ≡ start = omega (arith, below, least) in ap q same ∙ parts.0
        ]
    by_first false here later none = elim (cases_lt start number) [
      | inl above ↦ later none (omega (arith, above)) (omega (arith, most)) passes
      | inr below ↦ let same : number ≡ start = omega (arith, below, least) in false_true (sym here ∙ (ap p (sym same) ∙ passes))
    ]

-- a number below a range is not among those of it that are kept
pub not_in : (p : ℕ → Bool) (first count number : ℕ) → number < first → list_any (λ other. other == number) (filter p (range_with_len first count)) ≡ false
not_in p first zero number less = refl
not_in p first (suc count) number less = by_first (p first) (not_in p (first + 1) count number (omega (arith, less)))
  where
    by_first : (b : Bool) → list_any (λ other. other == number) (filter p (range_with_len (first + 1) count)) ≡ false → list_any (λ other. other == number) (if b then (first ∷ filter p (range_with_len (first + 1) count)) else filter p (range_with_len (first + 1) count)) ≡ false
    by_first true later = ap (λ b. b || list_any (λ other. other == number) (filter p (range_with_len (first + 1) count))) (ne_eqb first number (λ same. omega (arith, same, less))) ∙ later
    by_first false later = later

-- nor is one above it
pub not_above : (p : ℕ → Bool) (first count number : ℕ) → first + count ≤ number → list_any (λ other. other == number) (filter p (range_with_len first count)) ≡ false
not_above p first zero number above = refl
not_above p first (suc count) number above = by_first (p first) (not_above p (first + 1) count number (omega (arith, above)))
  where
    by_first : (b : Bool) → list_any (λ other. other == number) (filter p (range_with_len (first + 1) count)) ≡ false → list_any (λ other. other == number) (if b then (first ∷ filter p (range_with_len (first + 1) count)) else filter p (range_with_len (first + 1) count)) ≡ false
    by_first true later = or_from (first == number) (list_any (λ other. other == number) (filter p (range_with_len (first + 1) count))) (ne_eqb first number (λ same. omega (arith, same, above))) later
    by_first false later = later

-- and a number of the range is kept if it passes
pub is_in : (p : ℕ → Bool) (first count number : ℕ) → first ≤ number → number < first + count → list_any (λ other. other == number) (filter p (range_with_len first count)) ≡ p number
is_in p first zero number from to = absurd (omega (arith, from, to))
is_in p first (suc count) number from to = elim (cases_lt first number) [
  | inl above ↦ skip (p first) above (is_in p (first + 1) count number (omega (arith, above)) (omega (arith, to)))
  | inr below ↦ let same : first ≡ number = omega (arith, below, from) in hit (p first) same (not_in p (first + 1) count number (omega (arith, same))) ∙ ap p same
]
  where
    skip : (b : Bool) → first < number → list_any (λ other. other == number) (filter p (range_with_len (first + 1) count)) ≡ p number → list_any (λ other. other == number) (if b then (first ∷ filter p (range_with_len (first + 1) count)) else filter p (range_with_len (first + 1) count)) ≡ p number
    skip true above later = ap (λ b. b || list_any (λ other. other == number) (filter p (range_with_len (first + 1) count))) (ne_eqb first number (λ same. omega (arith, same, above))) ∙ later
    skip false above later = later

    hit : (b : Bool) → first ≡ number → list_any (λ other. other == number) (filter p (range_with_len (first + 1) count)) ≡ false → list_any (λ other. other == number) (if b then (first ∷ filter p (range_with_len (first + 1) count)) else filter p (range_with_len (first + 1) count)) ≡ b
    hit true same later = or_left (first == number) (list_any (λ other. other == number) (filter p (range_with_len (first + 1) count))) (eq-eqb first number same)
    hit false same later = later

-- functions that agree along a range have the same values, and the same sum
pub map_agree : {B : Type 0} (f g : ℕ → B) (first count : ℕ) → ((n : ℕ) → first ≤ n → n < first + count → f n ≡ g n) → map f (range_with_len first count) ≡ map g (range_with_len first count)
map_agree f g first zero same = refl
map_agree f g first (suc count) same =
    ap (λ x. x ∷ map f (range_with_len (first + 1) count)) (same first (omega arith) (omega arith))
    ∙ ap (λ l. g first ∷ l) (map_agree f g (first + 1) count (λ n from to. same n (omega (arith, from)) (omega (arith, to))))

pub sum_agree : (f g : ℕ → ℕ) (first count : ℕ) → ((n : ℕ) → first ≤ n → n < first + count → f n ≡ g n) → sum_by f (range_with_len first count) ≡ sum_by g (range_with_len first count)
sum_agree f g first count same = sym (sum-map f (range_with_len first count)) ∙ ap sum (map_agree f g first count same) ∙ sum-map g (range_with_len first count)

-- a summand is at most the sum
pub one_of_sum : (f : ℕ → ℕ) (first count n : ℕ) → first ≤ n → n < first + count → f n ≤ sum_by f (range_with_len first count)
one_of_sum f first zero n low high = absurd (omega (arith, low, high))
one_of_sum f first (suc count) n low high = elim (cases_lt first n) [
  | inl later ↦ omega (arith, sum_by-cons f first (range_with_len (first + 1) count), one_of_sum f (first + 1) count n (omega (arith, later)) (omega (arith, high)))
  | inr here ↦ let same : n ≡ first = omega (arith, here, low) in omega (arith, sum_by-cons f first (range_with_len (first + 1) count), ap f same)
]

-- functions with the same values along a range agree on it
pub along_range : (f g : ℕ → ℕ) (first count : ℕ) → map f (range_with_len first count) ≡ map g (range_with_len first count) → (k : ℕ) → first ≤ k → k < first + count → f k ≡ g k
along_range f g first zero same k from to = absurd (omega (arith, from, to))
along_range f g first (suc count) same k from to =
    ⊎_elim
    (λ (later : first < k). along_range f g (first + 1) count (cc) k (omega (arith, later)) (omega (arith, to)))
    (λ (here : k ≤ first).
    let is : k ≡ first = omega (arith, here, from) in
    ap f is ∙ (let head : f first ≡ g first = cc in head ∙ ap g (sym is)))
    (cases_lt first k)

-- one more number
pub flat_more : {B : Type 0} (f : ℕ → List B) (start count : ℕ) → flat_map f (range_with_len start (suc count)) ≡ flat_map f (range_with_len start count) ++ f (start + count)
flat_more f start zero = append-nil (f start) ∙ ap f (here start)
  where
    here : (n : ℕ) → n ≡ n + 0
    here n = omega arith
flat_more f start (suc count) =
    ap (λ l. f start ++ l) (flat_more f (start + 1) count ∙ ap (λ n. flat_map f (range_with_len (start + 1) count) ++ f n) (next start count))
    ∙ sym (append_assoc (f start) (flat_map f (range_with_len (start + 1) count)) (f (start + suc count)))
  where
    next : (a b : ℕ) → (a + 1) + b ≡ a + suc b
    next a b = omega arith

pub taken_along : (f : ℕ → ℕ) (xs : List ℕ) (start n : ℕ) → n ≤ length xs → ((k : ℕ) → k < n → get_or xs k 0 ≡ f (start + k)) → take n xs ≡ map f (range_with_len start n)
taken_along f xs start zero few same = refl
taken_along f [] start (suc n) few same = absurd (omega (arith, few))
taken_along f (x ∷ xs) start (suc n) few same =
    let here : x ≡ f start = same zero (omega arith) ∙ ap f (omega arith) in
    let rest : take n xs ≡ map f (range_with_len (start + 1) n) =
    taken_along f xs (start + 1) n (omega (arith, few)) (λ k within. same (suc k) (omega (arith, within)) ∙ ap f (omega arith)) in
    ap (λ y. y ∷ take n xs) here ∙ ap (λ more. f start ∷ more) rest

-- a list whose numbers are given by their places, counted from one
pub taken_from_one : (f : ℕ → ℕ) (xs : List ℕ) (n : ℕ) → n ≤ length xs → ((index : ℕ) → 1 ≤ index → get_or xs (index - 1) 0 ≡ f index) → take n xs ≡ map f (range_with_len 1 n)
taken_from_one f xs n few same =
    taken_along f xs 1 n few (λ k within. ap (λ j. get_or xs j 0) (omega arith) ∙ same (1 + k) (omega arith))

pub all_at : (p : ℕ → Bool) (first many number : ℕ) → list_all p (range_with_len first many) ≡ true → first ≤ number → number < first + many → p number ≡ true
all_at p first zero number all from within = absurd (omega (arith, from, within))
all_at p first (suc many) number all from within =
    let parts = and_parts (p first) (list_all p (range_with_len (first + 1) many)) all in
    by_first (first == number) refl parts.0 (λ past. all_at p (first + 1) many number parts.1 past (omega (arith, within)))
  where
    by_first : (same : Bool) → (first == number) ≡ same → p first ≡ true → (first + 1 ≤ number → p number ≡ true) → p number ≡ true
    by_first true e holds later = ap p (sym (eqb-true first number e)) ∙ holds
    by_first false e holds later = later (grind (arith, nat_tests, from))

pub all_of : (p : ℕ → Bool) (first count : ℕ) → ((number : ℕ) → first ≤ number → number < first + count → p number ≡ true) → list_all p (range_with_len first count) ≡ true
all_of p first zero each = refl
all_of p first (suc count) each = rw (each first (omega arith) (omega arith)) (all_of p (first + 1) count (λ number from within. each number (omega (arith, from)) (omega (arith, within))))

-- if not all pass a test, some pass another one that all others pass
pub some_other : (p q : ℕ → Bool) (first count : ℕ) → ((number : ℕ) → first ≤ number → number < first + count → p number ≡ false → q number ≡ true) → list_all p (range_with_len first count) ≡ false → list_any q (range_with_len first count) ≡ true
some_other p q first zero each fails = absurd (true≢false fails)
some_other p q first (suc count) each fails = by_first (p first) refl fails (some_other p q (first + 1) count (λ number low high. each number (omega (arith, low)) (omega (arith, high))))
  where
    by_first : (passes : Bool) → p first ≡ passes → (passes && list_all p (range_with_len (first + 1) count)) ≡ false
        → (list_all p (range_with_len (first + 1) count) ≡ false → list_any q (range_with_len (first + 1) count) ≡ true) → (q first || list_any q (range_with_len (first + 1) count)) ≡ true
    by_first true is fails later = or_right (q first) (list_any q (range_with_len (first + 1) count)) (later fails)
    by_first false is fails later = or_left (q first) (list_any q (range_with_len (first + 1) count)) (each first (omega arith) (omega arith) is)

pub any_taken_from : (p : ℕ → Bool) (row xs : List ℕ) (start n : ℕ) → n ≤ length xs → ((k : ℕ) → get_or row (start + k) 0 ≡ get_or xs k 0) → list_any p (take n xs) ≡ list_any (λ index. p (get_or row (index - 1) 0)) (range_with_len (start + 1) n)
any_taken_from p row xs start zero few same = refl
any_taken_from p row [] start (suc n) few same = absurd (omega (arith, few))
any_taken_from p row (x ∷ xs) start (suc n) few same =
    let here : x ≡ get_or row (start + 1 - 1) 0 = sym (ap (λ k. get_or row k 0) (omega arith) ∙ same zero) in
    let rest : list_any p (take n xs) ≡ list_any (λ index. p (get_or row (index - 1) 0)) (range_with_len (start + 1 + 1) n) =
    any_taken_from p row xs (start + 1) n (omega (arith, few)) (λ k. ap (λ j. get_or row j 0) (omega arith) ∙ same (suc k)) in
    ap (λ y. p y || list_any p (take n xs)) here ∙ ap (λ more. p (get_or row (start + 1 - 1) 0) || more) rest

-- some of the first numbers passes a test if the number at some index does, counted from one
pub any_taken : (p : ℕ → Bool) (row : List ℕ) (n : ℕ) → n ≤ length row → list_any p (take n row) ≡ list_any (λ index. p (get_or row (index - 1) 0)) (range_with_len 1 n)
any_taken p row n few = any_taken_from p row row 0 n few (λ k. ap (λ j. get_or row j 0) (omega arith))

pub taken_index_along : (f : ℕ → ℕ) (amounts : List ℕ) (first count : ℕ) → count ≤ length amounts
    → ((k : ℕ) → k < count → slice_index amounts k ≡ f (first + k))
    → take count amounts ≡ map f (range_with_len first count)
taken_index_along f amounts first zero few each = refl
taken_index_along f [] first (suc count) few each = absurd (omega (arith, few))
taken_index_along f (amount ∷ others) first (suc count) few each =
    ap₂ (λ x xs. x ∷ xs) (each 0 (omega arith) ∙ ap f (omega arith))
    (taken_index_along f others (first + 1) count (omega (arith, few)) (λ k within. each (suc k) (omega (arith, within)) ∙ ap f (omega arith)))

-- what is not found passes nowhere
pub find_nothing : (test : ℕ → Bool) (first count : ℕ)
    → find test (range_with_len first count) ≡ None
    → (k : ℕ)
    → first ≤ k
    → k < first + count
    → test k ≡ false
find_nothing test first zero none k low high = absurd (omega (arith, low, high))
find_nothing test first (suc count) none k low high = by (test first) refl none (λ rest l. find_nothing test (first + 1) count rest k (omega (arith, l)) (omega (arith, high)))
  where
    by : (b : Bool)
        → test first ≡ b
        → cond b (Some first) (find test (range_with_len (first + 1) count)) ≡ None
        → (find test (range_with_len (first + 1) count) ≡ None → first < k → test k ≡ false)
        → test k ≡ false
    by true is none later = absurd (cc (none))
    by false is none later =
        ⊎_elim (λ (l : first < k). later none l)
        (λ (l : k ≤ first). let here : k ≡ first = omega (arith, l, low) in ap test here ∙ is)
        (cases_lt first k)

-- the entry of a range that a function was mapped over
pub mapped_at : {X : Type 0} (f : ℕ → X) (d : X) (first count k : ℕ) → k < count → get_or (map f (range_with_len first count)) k d ≡ f (first + k)
mapped_at f d first zero k within = absurd (omega (arith, within))
mapped_at f d first (suc count) zero within = ap f (omega arith)
mapped_at f d first (suc count) (suc k) within = mapped_at f d (first + 1) count k (omega (arith, within)) ∙ ap f (omega arith)
