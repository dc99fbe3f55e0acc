-- Lemmas on tests that are joined by and, or and not.
use Rattle.std.proofs.Common.{Bool, ap, arith, false, if◌then◌else◌, inl, inr, not, refl, sym, true, ℕ, ◌&&◌, ◌+◌, ◌<◌, ◌||◌, ◌↔◌, ◌∙◌, ◌≡◌, ◌≤◌, ◌⊎◌, T, cond, true≢false}

-- what never holds proves anything
pub false_true : {A : Type 0} → false ≡ true → A
false_true is = absurd cc

-- what was said before adds nothing
pub or_again : (a b : Bool) → (a || b) ≡ (a || (a || b))
or_again true b = refl
or_again false b = refl

-- three tests in another order
pub or_swap : (a b c : Bool) → (a || (b || c)) ≡ (b || (a || c))
or_swap true true c = refl
or_swap true false c = refl
or_swap false true c = refl
or_swap false false c = refl

pub or_regroup : (a b c : Bool) → (a || (b || c)) ≡ ((b || a) || c)
or_regroup true true c = refl
or_regroup true false c = refl
or_regroup false true c = refl
or_regroup false false c = refl

-- what never holds adds nothing to either, and leaves nothing of both
pub or_false : (b : Bool) → (b || false) ≡ b
or_false true = refl
or_false false = refl

pub and_false : (b : Bool) → (b && false) ≡ false
and_false true = refl
and_false false = refl

-- a last test that always holds adds nothing
pub and_one : (a b : Bool) → (a && (b && true)) ≡ (a && b)
and_one true true = refl
and_one true false = refl
and_one false b = refl

-- one of two still holds if each is kept
pub either_still : (a b a' b' : Bool) → (a ≡ true → a' ≡ true) → (b ≡ true → b' ≡ true) → (a || b) ≡ true → (a' || b') ≡ true
either_still true b a' b' first second is = ap (λ x. x || b') (first refl)
either_still false true true b' first second is = refl
either_still false true false b' first second is = second refl
either_still false false a' b' first second is = false_true is

-- one test holds and another does not
pub both_known : (a b : Bool) → a ≡ true → b ≡ false → (a && not b) ≡ true
both_known a b first second = ap (λ x. x && not b) first ∙ ap not second

-- tests that are true together are the same
pub same_test : (a b : Bool) → (a ≡ true → b ≡ true) → (b ≡ true → a ≡ true) → a ≡ b
same_test true b to from = sym (to refl)
same_test false true to from = from refl
same_test false false to from = refl

-- what is above 0 comes from the case that holds
pub chosen : (b : Bool) (x : ℕ) → 0 < (if b then x else 0) → b ≡ true
chosen true x some = refl
chosen false x some = absurd (omega (arith, some))

-- what holds if and only if another holds, the other way round
pub flip : (A B : Type 0) → A ↔ B → B ↔ A
flip A B same = (same.1, same.0)

-- a test passes or not
pub passes_or_not : (b : Bool) → (b ≡ true) ⊎ (b ≡ false)
passes_or_not true = inl refl
passes_or_not false = inr refl

-- a test that holds beside another changes nothing
pub and_true : (a b : Bool) → b ≡ true → (a && b) ≡ a
and_true true b is = is
and_true false b is = refl

-- the second of two tests is enough
pub or_right : (a b : Bool) → b ≡ true → (a || b) ≡ true
or_right true b is = refl
or_right false b is = is

-- three tests, in either grouping
pub or_assoc : (a b c : Bool) → (a || (b || c)) ≡ ((a || b) || c)
or_assoc true b c = refl
or_assoc false b c = refl

-- nothing holds and fails
pub true_false : true ≡ false → ⊥
true_false is = cc

-- four tests that hold, hold together
pub all_four : (a b c d : Bool) → a ≡ true → b ≡ true → c ≡ true → d ≡ true → (a && b && c && d) ≡ true
all_four true true true d is_a is_b is_c is_d = is_d
all_four true true false d is_a is_b is_c is_d = absurd (cc)
all_four true false c d is_a is_b is_c is_d = absurd (cc)
all_four false b c d is_a is_b is_c is_d = absurd (cc)

-- five that hold together, each hold
pub five_all : (a b c d e : Bool) → (a && b && c && d && e) ≡ true → (a ≡ true) × (b ≡ true) × (c ≡ true) × (d ≡ true) × (e ≡ true)
five_all true true true true e is = (refl, refl, refl, refl, is)
five_all true true true false e is = absurd (cc)
five_all true true false d e is = absurd (cc)
five_all true false c d e is = absurd (cc)
five_all false b c d e is = absurd (cc)

-- and five that hold, hold together
pub all_five : (a b c d e : Bool) → a ≡ true → b ≡ true → c ≡ true → d ≡ true → e ≡ true → (a && b && c && d && e) ≡ true
all_five true true true true e is_a is_b is_c is_d is_e = is_e
all_five true true true false e is_a is_b is_c is_d is_e = is_d
all_five true true false d e is_a is_b is_c is_d is_e = absurd (cc)
all_five true false c d e is_a is_b is_c is_d is_e = absurd (cc)
all_five false b c d e is_a is_b is_c is_d is_e = absurd (cc)

-- what holds and fails proves any bound
pub not_set : {b : Bool} (top : ℕ) → b ≡ true → b ≡ false → top ≤ 0
not_set top set off = let different : true ≡ false = sym set ∙ off in absurd (cc)

-- if the first test passes, so does the second
pub implied : (a b : Bool) → (not a || b) ≡ true → a ≡ true → b ≡ true
implied true b passes is = passes
implied false b passes is = false_true is

-- if the second of two tests does not follow from the first, the first holds
pub first_holds : (b owes : Bool) → (not b || owes) ≡ false → b ≡ true
first_holds true owes is = refl
first_holds false owes is = absurd cc

-- four tests in two pairs
pub and_group : (a b c d : Bool) → (a && b && c && d) ≡ ((a && b) && (c && d))
and_group true true c d = refl
and_group true false c d = refl
and_group false b c d = refl

-- two tests in the other order
pub and_swap : (a b : Bool) → (a && b) ≡ (b && a)
and_swap true true = refl
and_swap true false = refl
and_swap false true = refl
and_swap false false = refl

-- nothing holds and does not
pub and_not : (b : Bool) → (b && not b) ≡ false
and_not true = refl
and_not false = refl

-- a choice by two tests that hold, by a test that is turned, and by two tests one of which fails
pub if_both : {X : Type 0} (a b : Bool) (x y : X) → a ≡ true → b ≡ true → (if a && b then x else y) ≡ x
if_both a b x y first second = ap (λ c. if c && b then x else y) first ∙ ap (λ c. if c then x else y) second

pub if_not : {X : Type 0} (b : Bool) (x y : X) → (if not b then x else y) ≡ (if b then y else x)
if_not true x y = refl
if_not false x y = refl

pub not_both : {X : Type 0} (a b : Bool) (x y : X) → b ≡ false → (if a && b then x else y) ≡ y
not_both true b x y second = ap (λ c. if c then x else y) second
not_both false b x y second = refl

pub none_added : (b : Bool) (n rest : ℕ) → b ≡ false → rest ≡ 0 → (if b then n else 0) + rest ≡ 0
none_added true n rest is none = absurd (cc)
none_added false n rest is none = omega (arith, none)

-- which way a choice went
pub chosen_either : {A : Type 0} (b : Bool) (x y z : A) → cond b x y ≡ z → ((b ≡ true) × (x ≡ z)) ⊎ ((b ≡ false) × (y ≡ z))
chosen_either true x y z is = inl (refl, is)
chosen_either false x y z is = inr (refl, is)

pub if_most : (b : Bool) (n : ℕ) → (if b then n else 0) ≤ n
if_most true n = omega arith
if_most false n = omega arith

-- a number if a test fails, and 0 if it passes
pub if_not_none : (test : Bool) (number : ℕ) → (if not test then number else 0) ≡ (if test then 0 else number)
if_not_none true number = refl
if_not_none false number = refl

pub first_of_both : (a b : Bool) → (a && b) ≡ true → a ≡ true
first_of_both true b is = refl
first_of_both false b is = false_true is

pub and_same : (b x y : Bool) → (b ≡ true → x ≡ y) → (b && x) ≡ (b && y)
and_same true x y same = same refl
and_same false x y same = refl

pub is_true : (b : Bool) → T b → b ≡ true
is_true true holds = refl
is_true false holds = absurd holds

pub if_same : (b : Bool) (n : ℕ) → cond b n n ≡ n
if_same true n = refl
if_same false n = refl

-- a test that fails neither below nor above holds
pub holds_by_both : (holds below above : Bool) → (not holds && below) ≡ false → (below ≡ false → above ≡ false → holds ≡ true) → above ≡ false → holds ≡ true
holds_by_both true below above small even big = refl
holds_by_both false below above small even big = even small big

pub if_and_swap : (a b : Bool) (n : ℕ) → (if a && b then n else 0) ≡ (if b && a then n else 0)
if_and_swap true true n = refl
if_and_swap true false n = refl
if_and_swap false true n = refl
if_and_swap false false n = refl

pub if_and_swap_added : (a b : Bool) (n m : ℕ) → (if a && b then n else 0) + m ≡ (if b && a then n else 0) + m
if_and_swap_added true true n m = refl
if_and_swap_added true false n m = refl
if_and_swap_added false true n m = refl
if_and_swap_added false false n m = refl

pub if_same_added : (b : Bool) (n m k : ℕ) → n ≡ m → (if b then n else 0) + k ≡ (if b then m else 0) + k
if_same_added true n m k same = ap (λ x. x + k) same
if_same_added false n m k same = refl

pub if_not_both : (b c : Bool) (n : ℕ) → b ≡ false → (if b && c then n else 0) ≡ 0
if_not_both b c n is = ap (λ x. if x && c then n else 0) is

pub and_off : (a b : Bool) → b ≡ false → a && b ≡ false
and_off true b is = is
and_off false b is = refl

pub second_fails : (e l : Bool) → e ≡ true → (e && l) ≡ false → l ≡ false
second_fails true l is none = none
second_fails false l is none = absurd cc

-- what is true is not false
pub not_true : (b : Bool) → b ≡ true → not b ≡ false
not_true true is = refl
not_true false is = absurd (true≢false (sym is))

pub not_not : (b : Bool) → not b ≡ false → b ≡ true
not_not true is = refl
not_not false is = absurd (true≢false is)

pub both_true : (a b : Bool) → a ≡ true → b ≡ true → (a && b) ≡ true
both_true a b one other = rw (one, other) refl

pub neither : (first rest : Bool) → (first || rest) ≡ false → (first ≡ false) × (rest ≡ false)
neither true rest none = absurd (true≢false none)
neither false rest none = (refl, none)

pub not_and_is : (b : Bool) → not b ≡ true → b ≡ true → ⊥
not_and_is true off on = absurd (cc)
not_and_is false off on = absurd (cc)

-- not both, if not both of two that follow
pub not_both_still : (a b c d : Bool) → (a ≡ true → c ≡ true) → (b ≡ true → d ≡ true) → (c && d) ≡ false → (a && b) ≡ false
not_both_still false b c d one two none = refl
not_both_still true false c d one two none = refl
not_both_still true true c d one two none = absurd (true≢false (sym (ap (λ x. x && d) (one refl) ∙ two refl) ∙ none))

-- a test as a number: 1 if it passes, 0 if it does not
abbrev pub one_if : Bool → ℕ
one_if b = cond b 1 0
