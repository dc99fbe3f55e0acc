-- The different numbers of a list are ascending, and are just its numbers.
use Rattle.std.proofs.Common.{◌≡◌, ℕ, ◌+◌, ◌<◌, ◌≤◌, Bool, true, false, ◌||◌, ◌==◌, cond, List, [], ◌∷◌, length, refl, sym, ap, ◌∙◌, subst, arith, nat_lt, filter, fold, Some, Option, min, slice_get}
use Rattle.std.specs.Option.{option_map_or}
use Rattle.std.specs.List.{list_any, All}
use Rattle.std.proofs.lemmas.Bool.{ltb-true, eqb-true, lt-ltb}
use Rattle.std.proofs.lemmas.List.Elements.{All-head, All-tail}
use Rattle.card_set.proofs.Rising.{Rising}
use Rattle.card_set.proofs.Lists.{first_of_kept}
use Rattle.card_set.proofs.Numbers.{above_from_tests}
use Rattle.card_set.proofs.Tests.{or_again, or_swap, or_regroup, or_false}
use Rattle.chip_ledger.specs.Pots.{with_number, different}

-- the three places of a new number: at an equal one, before the first, or further on
any_placed : (p : ℕ → Bool) (x y : ℕ) (ys placed : List ℕ) (same less : Bool)
    → (same ≡ true → x ≡ y)
    → list_any p placed ≡ (p x || list_any p ys)
    → list_any p (cond same (y ∷ ys) (cond less (x ∷ y ∷ ys) (y ∷ placed))) ≡ (p x || (p y || list_any p ys))
any_placed p x y ys placed true less e ih =
    or_again (p y) (list_any p ys) ∙ ap (λ z. p z || (p y || list_any p ys)) (sym (e refl))
any_placed p x y ys placed false true e ih = refl
any_placed p x y ys placed false false e ih =
    ap (λ b. p y || b) ih ∙ or_swap (p y) (p x) (list_any p ys)

-- a test passes at the new number or at one of the others
pub list_any-with_number : (p : ℕ → Bool) (ys : List ℕ) (x : ℕ)
    → list_any p (with_number ys x) ≡ (p x || list_any p ys)
list_any-with_number p [] x = refl
list_any-with_number p (y ∷ ys) x =
    any_placed p x y ys (with_number ys x) (x == y) (nat_lt x y) (eqb-true x y) (list_any-with_number p ys x)

any_added : (p : ℕ → Bool) (ys xs : List ℕ)
    → list_any p (fold with_number ys xs) ≡ (list_any p xs || list_any p ys)
any_added p ys [] = refl
any_added p ys (x ∷ xs) =
    any_added p (with_number ys x) xs
    ∙ ap (λ b. list_any p xs || b) (list_any-with_number p ys x)
    ∙ or_regroup (list_any p xs) (p x) (list_any p ys)

-- a test passes at one of the different numbers if and only if it passes at one of the numbers
pub list_any-different : (p : ℕ → Bool) (xs : List ℕ) → list_any p (different xs) ≡ list_any p xs
list_any-different p xs = any_added p [] xs ∙ or_false (list_any p xs)

rising_placed : (low x y : ℕ) (ys placed : List ℕ) (same less : Bool)
    → (same ≡ true → x ≡ y)
    → (same ≡ false → less ≡ true → x < y)
    → (same ≡ false → less ≡ false → y < x)
    → low ≤ x
    → (low ≤ y) × Rising (y + 1) ys
    → (y + 1 ≤ x → Rising (y + 1) placed)
    → Rising low (cond same (y ∷ ys) (cond less (x ∷ y ∷ ys) (y ∷ placed)))
rising_placed low x y ys placed true less e l g b r ih = r
rising_placed low x y ys placed false true e l g b r ih = let h : x < y =
    l refl refl in (b, (omega arith, r.1))
rising_placed low x y ys placed false false e l g b r ih = let h : y < x =
    g refl refl in (r.0, ih (omega arith))

Rising-with_number : (low : ℕ) (ys : List ℕ) (x : ℕ)
    → low ≤ x
    → Rising low ys
    → Rising low (with_number ys x)
Rising-with_number low [] x b r = (b, tt)
Rising-with_number low (y ∷ ys) x b r =
    rising_placed low x y ys (with_number ys x) (x == y) (nat_lt x y) (eqb-true x y) (λ _. ltb-true x y)
    (above_from_tests x y) b r (λ h. Rising-with_number (y + 1) ys x h r.1)

rising_added : (low : ℕ) (ys xs : List ℕ)
    → All (λ x. low ≤ x) xs
    → Rising low ys
    → Rising low (fold with_number ys xs)
rising_added low ys [] h r = r
rising_added low ys (x ∷ xs) h r =
    rising_added low (with_number ys x) xs (All-tail (λ x. low ≤ x) x xs h)
    (Rising-with_number low ys x (All-head (λ x. low ≤ x) x xs h) r)

-- the different numbers of a list are ascending from a number that none is below
pub Rising-different : (low : ℕ) (xs : List ℕ)
    → All (λ x. low ≤ x) xs
    → Rising low (different xs)
Rising-different low xs h = rising_added low [] xs h tt

-- the smaller of a number and one that may be there
abbrev pub lesser : ℕ → Option ℕ → ℕ
lesser v first = option_map_or (λ x. min v x) first v

-- the first number above b, once v is among the numbers
abbrev pub nearer : ℕ → ℕ → Option ℕ → Option ℕ
nearer b v first = cond (nat_lt b v) (Some (lesser v first)) first

-- the first number above b
abbrev pub first_above : ℕ → List ℕ → Option ℕ
first_above b xs = slice_get (filter (nat_lt b) xs) 0

-- the three places by the tests of both numbers
near_same : (c : Bool) (y : ℕ) (o : Option ℕ)
    → cond c (Some y) o ≡ cond c (Some (lesser y (cond c (Some y) o))) (cond c (Some y) o)
near_same true y o = let e : y ≡ min y y = omega arith in ap Some e
near_same false y o = refl

near_before : (b x y : ℕ) (c d : Bool) (o : Option ℕ) → x < y → (c ≡ true → d ≡ true)
    → cond c (Some x) (cond d (Some y) o) ≡ cond c (Some (lesser x (cond d (Some y) o))) (cond d (Some y) o)
near_before b x y true true o l h = let e : x ≡ min x y = omega arith in ap Some e
near_before b x y true false o l h = let e : false ≡ true = h refl in cc
near_before b x y false d o l h = refl

near_after : (x y : ℕ) (c d : Bool) (o : Option ℕ) → y < x → (d ≡ true → c ≡ true)
    → cond d (Some y) (cond c (Some (lesser x o)) o)
    ≡ cond c (Some (lesser x (cond d (Some y) o))) (cond d (Some y) o)
near_after x y true true o l h = let e : y ≡ min x y = omega arith in ap Some e
near_after x y true false o l h = refl
near_after x y false true o l h = let e : false ≡ true = h refl in cc
near_after x y false false o l h = refl

first_placed : (b x y : ℕ) (ys placed : List ℕ) (same less : Bool)
    → (same ≡ true → x ≡ y)
    → (same ≡ false → less ≡ true → x < y)
    → (same ≡ false → less ≡ false → y < x)
    → first_above b placed ≡ nearer b x (first_above b ys)
    → first_above b (cond same (y ∷ ys) (cond less (x ∷ y ∷ ys) (y ∷ placed)))
    ≡ nearer b x (first_above b (y ∷ ys))
first_placed b x y ys placed true less e l g ih =
    let f = first_of_kept (nat_lt b y) y (filter (nat_lt b) ys) in
    let P : ℕ → Type 0 = λ z. first_above b (y ∷ ys) ≡ nearer b z (first_above b (y ∷ ys)) in
    subst P (sym (e refl)) (rw f (near_same (nat_lt b y) y (first_above b ys)))
first_placed b x y ys placed false true e l g ih =
    let f = first_of_kept (nat_lt b y) y (filter (nat_lt b) ys) in
    let h : x < y = l refl refl in
    rw (first_of_kept (nat_lt b x) x (filter (nat_lt b) (y ∷ ys)), f)
    (near_before b x y (nat_lt b x) (nat_lt b y) (first_above b ys) h (λ t. lt-ltb b y (omega (arith, ltb-true b x t))))
first_placed b x y ys placed false false e l g ih =
    let h : y < x = g refl refl in
    rw (first_of_kept (nat_lt b y) y (filter (nat_lt b) placed), first_of_kept (nat_lt b y) y (filter (nat_lt b) ys), ih)
    (near_after x y (nat_lt b x) (nat_lt b y) (first_above b ys) h (λ t. lt-ltb b x (omega (arith, ltb-true b y t))))

pub first_above-with_number : (b : ℕ) (ys : List ℕ) (x : ℕ)
    → first_above b (with_number ys x) ≡ nearer b x (first_above b ys)
first_above-with_number b [] x = first_of_kept (nat_lt b x) x []
first_above-with_number b (y ∷ ys) x =
    first_placed b x y ys (with_number ys x) (x == y) (nat_lt x y) (eqb-true x y) (λ _. ltb-true x y)
    (above_from_tests x y) (first_above-with_number b ys x)

length_placed : (x y : ℕ) (ys placed : List ℕ) (same less : Bool)
    → length placed ≤ length ys + 1
    → length (cond same (y ∷ ys) (cond less (x ∷ y ∷ ys) (y ∷ placed))) ≤ length (y ∷ ys) + 1
length_placed x y ys placed true less h = omega arith
length_placed x y ys placed false true h = omega arith
length_placed x y ys placed false false h = omega arith

length-with_number : (ys : List ℕ) (x : ℕ) → length (with_number ys x) ≤ length ys + 1
length-with_number [] x = omega arith
length-with_number (y ∷ ys) x =
    length_placed x y ys (with_number ys x) (x == y) (nat_lt x y) (length-with_number ys x)

length_added : (ys xs : List ℕ) → length (fold with_number ys xs) ≤ length ys + length xs
length_added ys [] = omega arith
length_added ys (x ∷ xs) =
    let h = length_added (with_number ys x) xs in
    let k = length-with_number ys x in
    omega arith

-- there are at most as many different numbers as numbers
pub length-different : (xs : List ℕ) → length (different xs) ≤ length xs
length-different xs = let h = length_added [] xs in omega arith
