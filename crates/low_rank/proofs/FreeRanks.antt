-- Of two groups of ranks, the lowest that are free make the smallest number of all that can be had.
use Rattle.std.proofs.Common.{◌≡◌, ℕ, zero, suc, ◌+◌, ◌<◌, ◌≤◌, ◌==◌, ◌&&◌, ◌||◌, ◌⊎◌, not, Bool, true, false, cond, List, [], ◌∷◌, ◌++◌, length, inl, inr, refl, sym, ◌∙◌, ap, subst, arith, eq-eqb, length-append}
use Rattle.std.specs.Prelude.{nat_le}
use Rattle.std.proofs.lemmas.Bool.{and_parts, cases_lt, le-leb, leb-true, ne_eqb}
use Rattle.card_set.specs.Classes.{IsLower}
use Rattle.hand_order.specs.Digits.{with_digits}
use Rattle.hand_order.specs.Lowest.{lowest}
use Rattle.hand_order.proofs.Digits.{AreDigits, same_before}
use Rattle.hand_order.proofs.FallingRanks.{FallingFrom}
use Rattle.hand_order.proofs.LowestLaws.{IsLeast, Pass, digits_within, few_lowest, lowest_least, lowest_passes, lowest_some}
use Rattle.card_set.proofs.Tests.{and_false, and_true}
use Rattle.low_rank.specs.RazzBest.{both_ranks, class_ranks, first_ranks, is_free, is_height_of, lowest_ranks, often, often_ranks, seldom, seldom_ranks}
use Rattle.hand_order.proofs.RankDigits.{AreDigits-append}

-- how many heights pass a test, among a number of heights from one on
abbrev passing : (ℕ → Bool) → ℕ → ℕ → ℕ
passing has zero from = 0
passing has (suc heights) from = cond (has from) 1 0 + passing has heights (from + 1)

-- if enough pass, as many are found as are needed
lowest_full : (has : ℕ → Bool) (heights from n : ℕ) → n ≤ passing has heights from → length (lowest has heights from n) ≡ n
lowest_full has zero from n few = omega arith
lowest_full has (suc heights) from zero few = refl
lowest_full has (suc heights) from (suc m) few =
    ap (length {A = ℕ}) (lowest_some has heights from m)
    ∙ by_test (has from) few (lowest_full has heights (from + 1) m) (lowest_full has heights (from + 1) (suc m))
  where
    by_test : (b : Bool) → suc m ≤ cond b 1 0 + passing has heights (from + 1) → (m ≤ passing has heights (from + 1) → length (lowest has heights (from + 1) m) ≡ m) → (suc m ≤ passing has heights (from + 1) → length (lowest has heights (from + 1) (suc m)) ≡ suc m) → length (cond b (lowest has heights (from + 1) m ++ from ∷ []) (lowest has heights (from + 1) (suc m))) ≡ suc m
    by_test true few fewer same = omega (arith, fewer (omega arith), length-append (lowest has heights (from + 1) m) (from ∷ []))
    by_test false few fewer same = same (omega arith)

passing_agree : (f g : ℕ → Bool) (heights from : ℕ) → ((h : ℕ) → from ≤ h → f h ≡ g h) → passing f heights from ≡ passing g heights from
passing_agree f g zero from same = refl
passing_agree f g (suc heights) from same =
    omega (arith, ap (λ (b : Bool). cond {A = ℕ} b 1 0) (same from (omega arith)), passing_agree f g heights (from + 1) (λ h above. same h (omega arith)))

-- a test that one height no longer passes
abbrev but : (ℕ → Bool) → ℕ → ℕ → Bool
but has x h = has h && not (x == h)

but_other : (has : ℕ → Bool) (x h : ℕ) → (x ≡ h → ⊥) → but has x h ≡ has h
but_other has x h other = ap (λ (b : Bool). has h && not b) (ne_eqb x h other) ∙ and_true (has h) true refl

but_here : (has : ℕ → Bool) (x h : ℕ) → x ≡ h → but has x h ≡ false
but_here has x h same = ap (λ (b : Bool). has h && not b) (eq-eqb x h same) ∙ and_false (has h)

passing_but : (has : ℕ → Bool) (heights from x : ℕ) → has x ≡ true → from ≤ x → x < from + heights → passing (but has x) heights from + 1 ≡ passing has heights from
passing_but has zero from x is low high = absurd (omega arith)
passing_but has (suc heights) from x is low high =
    elim (cases_lt from x) [
      | inl above ↦ omega (arith, ap (λ (b : Bool). cond {A = ℕ} b 1 0) (but_other has x from (λ same. omega arith)), passing_but has heights (from + 1) x is (omega arith) (omega arith))
      | inr least ↦
          let same : x ≡ from = omega arith in
          let here = ap (λ (b : Bool). cond {A = ℕ} b 1 0) (but_here has x from same) in
          let there = ap (λ (b : Bool). cond {A = ℕ} b 1 0) (sym (ap has same) ∙ is) in
          omega (arith, here, there, passing_agree (but has x) has heights (from + 1) (λ h above. but_other has x h (λ at. omega arith)))
    ]

-- a test that none of these heights passes
abbrev pub spared : (ℕ → Bool) → List ℕ → ℕ → Bool
spared has others h = has h && not (is_height_of others h)

spared_step : (has : ℕ → Bool) (x : ℕ) (xs : List ℕ) (h : ℕ) → spared has (x ∷ xs) h ≡ spared (but has x) xs h
spared_step has x xs h = by_tests (has h) (x == h) (is_height_of xs h)
  where
    by_tests : (a b d : Bool) → (a && not (b || d)) ≡ ((a && not b) && not d)
    by_tests true true d = refl
    by_tests true false d = refl
    by_tests false b d = refl

pass_but : (has : ℕ → Bool) (from x bound : ℕ) (xs : List ℕ) → bound ≤ x → FallingFrom bound xs → Pass has from xs → Pass (but has x) from xs
pass_but has from x bound [] above falling pass = tt
pass_but has from x bound (h ∷ hs) above falling pass =
    (but_other has x h (λ same. omega (arith, falling.0)) ∙ pass.0, pass.1, pass_but has from x h hs (omega (arith, falling.0)) falling.1 pass.2)

-- as many fewer pass as are taken away
passing_spared : (has : ℕ → Bool) (heights from bound : ℕ) (xs : List ℕ) → bound ≤ from + heights → FallingFrom bound xs → Pass has from xs → passing (spared has xs) heights from + length xs ≡ passing has heights from
passing_spared has heights from bound [] below falling pass = omega (arith, passing_agree (spared has []) has heights from (λ h above. and_true (has h) true refl))
passing_spared has heights from bound (x ∷ xs) below falling pass =
    omega (
      arith,
      passing_agree (spared has (x ∷ xs)) (spared (but has x) xs) heights from (λ h above. spared_step has x xs h),
      passing_spared (but has x) heights from x xs (omega (arith, falling.0)) falling.1 (pass_but has from x x xs (omega arith) falling.1 pass.2),
      passing_but has heights from x pass.0 pass.1 (omega (arith, falling.0)),
    )

-- a list is the same as another, or lower
abbrev pub AtMost : List ℕ → List ℕ → Type 0
AtMost xs ys = (xs ≡ ys) ⊎ IsLower xs ys

compared : (xs ys : List ℕ) → length xs ≡ length ys → AtMost xs ys ⊎ IsLower ys xs
compared [] [] same = inl (inl refl)
compared [] (y ∷ ys) same = absurd (omega arith)
compared (x ∷ xs) [] same = absurd (omega arith)
compared (x ∷ xs) (y ∷ ys) same =
    elim (cases_lt x y) [
      | inl lower ↦ inl (inr (inl lower))
      | inr least ↦ elim (cases_lt y x) [
        | inl higher ↦ inr (inl higher)
        | inr most ↦
            let at : x ≡ y = omega arith in
            elim (compared xs ys (omega arith)) [
              | inl rest ↦ elim rest [
                | inl equal ↦ inl (inl (ap (λ (k : ℕ). k ∷ xs) at ∙ ap (λ (l : List ℕ). y ∷ l) equal))
                | inr lower ↦ inl (inr (inr (at, lower)))
              ]
              | inr higher ↦ inr (inr (sym at, higher))
            ]
      ]
    ]

-- a list whose number is not greater is at most the other
at_most : (xs ys : List ℕ) → length xs ≡ length ys → AreDigits xs → AreDigits ys → with_digits 0 xs ≤ with_digits 0 ys → AtMost xs ys
at_most xs ys same digits others less =
    elim (compared xs ys same) [ inl most ↦ most | inr higher ↦ let more = (same_before 0 ys xs (sym same) others digits).1 higher in absurd (omega arith) ]

number_at_most : (xs ys : List ℕ) → length xs ≡ length ys → AreDigits xs → AreDigits ys → AtMost xs ys → with_digits 0 xs ≤ with_digits 0 ys
number_at_most xs ys same digits others (inl equal) = let e = ap (with_digits 0) equal in omega arith
number_at_most xs ys same digits others (inr lower) = let less = (same_before 0 xs ys same digits others).1 lower in omega arith

-- the first group decides before the second
both_at_most : (a b xs ys : List ℕ) → AtMost a b → (a ≡ b → AtMost xs ys) → AtMost (a ++ xs) (b ++ ys)
both_at_most a b xs ys (inl equal) rest =
    elim (rest equal) [
      | inl same ↦ inl (ap (λ (l : List ℕ). l ++ xs) equal ∙ ap (λ (l : List ℕ). b ++ l) same)
      | inr lower ↦ subst (λ (l : List ℕ). AtMost (l ++ xs) (b ++ ys)) (sym equal) (inr (after b lower))
    ]
  where
    after : (b : List ℕ) → IsLower xs ys → IsLower (b ++ xs) (b ++ ys)
    after [] lower = lower
    after (x ∷ b) lower = inr (refl, after b lower)
both_at_most a b xs ys (inr lower) rest = inr (before a b lower)
  where
    before : (a b : List ℕ) → IsLower a b → IsLower (a ++ xs) (b ++ ys)
    before [] b lower = absurd lower
    before (x ∷ a) [] lower = absurd lower
    before (x ∷ a) (y ∷ b) (inl less) = inl less
    before (x ∷ a) (y ∷ b) (inr same) = inr (same.0, before a b same.1)

-- what passes one test passes another that is as easy
pub pass_easier : (has easier : ℕ → Bool) (from : ℕ) (hs : List ℕ) → ((h : ℕ) → has h ≡ true → easier h ≡ true) → Pass has from hs → Pass easier from hs
pass_easier has easier from [] turn pass = tt
pass_easier has easier from (h ∷ hs) turn pass = (turn h pass.0, pass.1, pass_easier has easier from hs turn pass.2)

-- how many heights of ranks pass
unfoldable passing_all : (ℕ → Bool) → ℕ
passing_all has = passing has 13 1

pub ranks_least : (has : ℕ → Bool) (n : ℕ) (ks : List ℕ) → length ks ≡ n → FallingFrom 14 ks → Pass has 1 ks → IsLeast (lowest_ranks has n) ks n
unfolding lowest_ranks
ranks_least has n ks long falling pass = lowest_least has 13 1 n ks long falling pass

pub ranks_shape : (has : ℕ → Bool) (n : ℕ) → FallingFrom 14 (lowest_ranks has n) × Pass has 1 (lowest_ranks has n)
unfolding lowest_ranks
ranks_shape has n = lowest_passes has 13 1 n

pub few_ranks : (has : ℕ → Bool) (n : ℕ) → length (lowest_ranks has n) ≤ n
unfolding lowest_ranks
few_ranks has n = few_lowest has 13 1 n

ranks_full : (has : ℕ → Bool) (n : ℕ) → n ≤ passing_all has → length (lowest_ranks has n) ≡ n
unfolding lowest_ranks passing_all
ranks_full has n enough = lowest_full has 13 1 n enough

all_spared : (has : ℕ → Bool) (xs : List ℕ) → FallingFrom 14 xs → Pass has 1 xs → passing_all (spared has xs) + length xs ≡ passing_all has
unfolding passing_all
all_spared has xs falling pass = passing_spared has 13 1 14 xs (omega arith) falling pass

-- a height occurs this often
abbrev enough : (ℕ → ℕ) → ℕ → ℕ → Bool
enough T o h = nat_le o (T h)

pub both_least : (T : ℕ → ℕ) (m n o k : ℕ) (a b : List ℕ) → o ≤ m → length a ≡ n → length b ≡ k → FallingFrom 14 a → FallingFrom 14 b → Pass (is_free T m []) 1 a → Pass (is_free T o a) 1 b → IsLeast (both_ranks T m n o k) (a ++ b) (n + k)
both_least T m n o k a b less long_a long_b falls_a falls_b pass_a pass_b =
    let first = first_ranks T m n in
    let rest = lowest_ranks (is_free T o first) k in
    let easier : (h : ℕ) → is_free T m [] h ≡ true → enough T o h ≡ true = λ h is. le-leb o (T h) (omega (arith, leb-true m (T h) (and_parts (nat_le m (T h)) true is).0)) in
    let least = ranks_least (is_free T m []) n a long_a falls_a pass_a in
    let shape = ranks_shape (is_free T m []) n in
    let mine : passing_all (is_free T o first) + length first ≡ passing_all (enough T o) = all_spared (enough T o) first shape.0 (pass_easier (is_free T m []) (enough T o) 1 first easier shape.1) in
    let theirs : passing_all (is_free T o a) + length a ≡ passing_all (enough T o) = all_spared (enough T o) a falls_a (pass_easier (is_free T m []) (enough T o) 1 a easier pass_a) in
    let left = all_spared (is_free T o a) b falls_b pass_b in
    let full = ranks_full (is_free T o first) k (omega (arith, mine, theirs, left, least.long)) in
    let rest_shape = ranks_shape (is_free T o first) k in
    let digits_first = digits_within 14 first (omega arith) shape.0 in
    let digits_a = digits_within 14 a (omega arith) falls_a in
    let digits_rest = digits_within 14 rest (omega arith) rest_shape.0 in
    let digits_b = digits_within 14 b (omega arith) falls_b in
    let before = at_most first a (least.long ∙ sym long_a) digits_first digits_a least.least in
    let most = both_at_most first a rest b before (λ same.
    let again = ranks_least (is_free T o first) k b long_b falls_b (subst (λ (l : List ℕ). Pass (is_free T o l) 1 b) (sym same) pass_b) in
    at_most rest b (full ∙ sym long_b) digits_rest digits_b again.least) in
    record {
      long = omega (arith, length-append first rest, least.long, full);
      least = number_at_most (first ++ rest) (a ++ b) (omega (arith, length-append first rest, length-append a b, least.long, full)) (AreDigits-append first rest digits_first digits_rest) (AreDigits-append a b digits_a digits_b) most;
    }

-- the ranks of a shape that is a class's
pub shape_ranks : (T : ℕ → ℕ) (class m n o k : ℕ) (found : List ℕ) → found ≡ both_ranks T m n o k → m ≡ often class → n ≡ often_ranks class → o ≡ seldom class → k ≡ seldom_ranks class → found ≡ class_ranks T class
shape_ranks T class m n o k found is is_m is_n is_o is_k =
    is
    ∙ ap (λ (x : ℕ). both_ranks T x n o k) is_m
    ∙ ap (λ (x : ℕ). both_ranks T (often class) x o k) is_n
    ∙ ap (λ (x : ℕ). both_ranks T (often class) (often_ranks class) x k) is_o
    ∙ ap (λ (x : ℕ). both_ranks T (often class) (often_ranks class) (seldom class) x) is_k
