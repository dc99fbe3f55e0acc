-- Lemmas on lists without elements, first elements and fronts.
use Rattle.std.proofs.Common.{Bool, List, None, Some, [], ap, arith, cond, drop, false, filter, if◌then◌else◌, length, length-append, map, refl, slice_get, sym, take, true, ℕ, ◌++◌, ◌+◌, ◌-◌, ◌∙◌, ◌∷◌, ◌≡◌, ◌≢◌, ◌≤◌, append_assoc, get_or, ◌*◌, ◌<◌}
use Rattle.std.proofs.lemmas.List.{append-nil, drop-drop, take-append-drop, take_at, take_rest, length-drop, take_more}
use Rattle.std.proofs.lemmas.List.Sums.{count_by-le-length, length-filter}

-- what is mapped to nothing is nothing
pub map_nothing : {X Y : Type 0} (f : X → Y) (xs : List X) → map f xs ≡ [] → xs ≡ []
map_nothing f [] e = refl
map_nothing f (x ∷ xs) e = cc

-- if there is no first element, there is none
pub no_first : {X : Type 0} (xs : List X) → slice_get xs 0 ≡ None → xs ≡ []
no_first [] e = refl
no_first (x ∷ xs) e = cc

-- the first, with one more in front, if it is kept
pub first_of_kept : {X : Type 0} (c : Bool) (y : X) (xs : List X) → slice_get (cond c (y ∷ xs) xs) 0 ≡ cond c (Some y) (slice_get xs 0)
first_of_kept true y xs = refl
first_of_kept false y xs = refl

pub empty_from : {X : Type 0} (xs : List X) → ¬ (xs ≢ []) → xs ≡ []
empty_from [] not = refl
empty_from (x ∷ xs) not = absurd (not (λ none. cc (none)))

-- a front of what comes from a place on, and what comes after it
pub front_and_rest : (bytes front rest : List ℕ) (start n : ℕ) → front ≡ take n (take (length bytes - start) (drop start bytes)) → length front ≡ n
    → drop start bytes ≡ take n (front ++ rest) ++ drop (start + n) bytes
front_and_rest bytes front rest start n is len =
    let whole : take n (front ++ rest) ≡ take n (drop start bytes) = take_at front rest n len ∙ is ∙ ap (take n) (take_rest bytes start) in
    sym (ap (λ l. l ++ drop (start + n) bytes) whole
    ∙ ap (λ l. take n (drop start bytes) ++ l) (sym (drop-drop n start bytes))
    ∙ take-append-drop n (drop start bytes))

-- tests that agree keep the same
pub filter-agree : {X : Type 0} (p q : X → Bool) (xs : List X) → ((x : X) → p x ≡ q x) → filter p xs ≡ filter q xs
filter-agree p q [] same = refl
filter-agree p q (x ∷ xs) same = ap (λ (b : Bool). cond b (x ∷ filter p xs) (filter p xs)) (same x) ∙ ap (λ l. cond (q x) (x ∷ l) l) (filter-agree p q xs same)

-- nothing before a list adds nothing
pub none_before : (start more : List ℕ) → start ≡ [] → start ++ more ≡ more
none_before start more none = ap (λ (l : List ℕ). l ++ more) none

-- a list with more after it
pub length_grown : (row more next : List ℕ) → next ≡ row ++ more → length next ≡ length row + length more
length_grown row more next is = ap (length {A = ℕ}) is ∙ length-append row more

-- a list with nothing after it, with the same, with two parts, and with a part of what is wanted
pub nothing_behind : {X : Type 0} (old more : List X) → more ≡ [] → old ≡ old ++ more
nothing_behind old more none = sym (append-nil old) ∙ ap (λ l. old ++ l) (sym none)

pub same_behind : {X : Type 0} (new old more other : List X) → more ≡ other → new ≡ old ++ more → new ≡ old ++ other
same_behind new old more other same is = is ∙ ap (λ l. old ++ l) same

pub two_behind : {X : Type 0} (old mid new first second : List X) → mid ≡ old ++ first → new ≡ mid ++ second → new ≡ old ++ (first ++ second)
two_behind old mid new first second one other = other ∙ ap (λ l. l ++ second) one ∙ append_assoc old first second

-- at most as many are kept as there are
pub kept_few : {X : Type 0} (p : X → Bool) (xs : List X) → length (filter p xs) ≤ length xs
kept_few p xs = omega (arith, length-filter p xs, count_by-le-length p xs)

pub maybe_few : {X : Type 0} (b : Bool) (xs : List X) (most : ℕ) → length xs ≤ most → length (if b then xs else []) ≤ most
maybe_few true xs most few = few
maybe_few false xs most few = omega arith

-- a map that distinguishes all values distinguishes all lists
pub lists_same : {A B : Type 0} (f : A → B) → ((a b : A) → f a ≡ f b → a ≡ b) → (xs ys : List A) → map f xs ≡ map f ys → xs ≡ ys
lists_same f apart [] [] same = refl
lists_same f apart [] (y ∷ ys) same = absurd (cc)
lists_same f apart (x ∷ xs) [] same = absurd (cc)
lists_same f apart (x ∷ xs) (y ∷ ys) same =
    let head : x ≡ y = apart x y (cc) in
    let tail : xs ≡ ys = lists_same f apart xs ys (cc) in
    ap (λ z. z ∷ xs) head ∙ ap (λ zs. y ∷ zs) tail

-- a list of length 0 is empty
pub none_from_length : {A : Type 0} (list : List A) → length list ≤ 0 → list ≡ []
none_from_length [] none = refl
none_from_length (first ∷ rest) none = absurd (omega (arith, none))

-- one more pair of letters
pub pair_more : (bytes : List ℕ) (index : ℕ) → 2 * index + 1 < length bytes → take (2 * (index + 1)) bytes ≡ take (2 * index) bytes ++ get_or bytes (2 * index) 0 ∷ get_or bytes (2 * index + 1) 0 ∷ []
pair_more bytes index within =
    let two : 2 * (index + 1) ≡ 2 * index + 1 + 1 = omega arith in
    ap (λ (n : ℕ). take n bytes) two
    ∙ take_more bytes (2 * index + 1) 0 within
    ∙ ap (λ (l : List ℕ). l ++ get_or bytes (2 * index + 1) 0 ∷ []) (take_more bytes (2 * index) 0 (omega arith))
    ∙ append_assoc (take (2 * index) bytes) (get_or bytes (2 * index) 0 ∷ []) (get_or bytes (2 * index + 1) 0 ∷ [])

pub take_front : (digits rest : List ℕ) → take (length digits) (digits ++ rest) ≡ digits
take_front [] rest = refl
take_front (digit ∷ digits) rest = ap (λ (l : List ℕ). digit ∷ l) (take_front digits rest)

pub either_few : {X : Type 0} (test : Bool) (xs ys : List X) → length xs ≤ 1 → length ys ≤ 1 → length (cond test xs ys) ≤ 1
either_few true xs ys few all = few
either_few false xs ys few all = all

pub one_at_most : {X : Type 0} (test : Bool) (x : X) → length (cond test (x ∷ []) []) ≤ 1
one_at_most true x = omega arith
one_at_most false x = omega arith

pub where_few : {X : Type 0} (test : Bool) (xs : List X) → length xs ≤ 1 → length (cond test xs []) ≤ 1
where_few true xs few = few
where_few false xs few = omega arith

pub not_past : {A : Type 0} (xs : List A) (index : ℕ) (here : List A) → index < length xs → here ≡ drop index xs → here ≡ [] → ⊥
not_past xs index here within is none = omega (arith, ap length (sym is ∙ none), length-drop index xs)

pub longer_either : (b : Bool) (name : List ℕ) (names other : List (List ℕ)) → name ∷ cond b names other ≡ cond b (name ∷ names) (name ∷ other)
longer_either true name names other = refl
longer_either false name names other = refl

pub mapped_either : {X Y : Type 0} (f : X → Y) (b : Bool) (xs ys : List X) → map f (cond b xs ys) ≡ cond b (map f xs) (map f ys)
mapped_either f true xs ys = refl
mapped_either f false xs ys = refl

pub filter_none : {X : Type 0} (test : X → Bool) (xs : List X) → ((x : X) → test x ≡ false) → filter test xs ≡ []
filter_none test [] none = refl
filter_none test (x ∷ xs) none = rw (none x) (filter_none test xs none)

pub same_first : (a b : ℕ) (xs ys : List ℕ) → a ∷ xs ≡ b ∷ ys → a ≡ b
same_first a b xs ys is = cc

pub same_rest : (a b : ℕ) (xs ys : List ℕ) → a ∷ xs ≡ b ∷ ys → xs ≡ ys
same_rest a b xs ys is = cc
