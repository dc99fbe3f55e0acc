-- Lemmas on numbers and their comparisons.
use Rattle.std.proofs.Common.{Bool, List, [], arith, false, inl, inr, max, nat_le, nat_lt, refl, suc, sym, true, ℕ, ◌&&◌, ◌*◌, ◌+◌, ◌-◌, ◌<◌, ◌==◌, ◌∙◌, ◌∷◌, ◌≡◌, ◌≢◌, ◌≤◌, eqb, nat_eq, not}
use Rattle.std.proofs.lemmas.Bool.{cases_lt, eq-eqb, eqb-true, le-leb, leb-false, leb-true, lt-leb, le-ltb, lt-ltb, ltb-false, ltb-true, not_from_true}
use Rattle.std.proofs.lemmas.Bool.Decides.{nat_tests}
use Rattle.std.specs.Char.{digit_value}
use Rattle.std.specs.Str.Parse.{digits_value_after}
use Rattle.card_set.proofs.Tests.{false_true, is_true}
use Rattle.std.specs.Prelude.{zero}
use Rattle.std.proofs.Math.Dec.{eqb_refl}

-- neither equal nor below
pub above_from_tests : (x y : ℕ) → (x == y) ≡ false → nat_lt x y ≡ false → y < x
above_from_tests x y e l = grind (arith, nat_tests)

-- equality goes both ways
pub eq_false_both : (a b : ℕ) (y : Bool) → (b == a) ≡ y → (a == b) ≡ false → (b == a) ≡ false
eq_false_both a b true same is = false_true (sym is ∙ eq-eqb a b (sym (eqb-true b a same)))
eq_false_both a b false same is = same

pub eq_true_both : (a b : ℕ) (x : Bool) → (a == b) ≡ x → (b == a) ≡ x
eq_true_both a b true is = eq-eqb b a (sym (eqb-true a b is))
eq_true_both a b false is = eq_false_both a b (b == a) refl is

-- no number is below 0
pub and_zero : (b : Bool) (n : ℕ) → b ≡ (b && nat_le 0 n)
and_zero true n = sym (le-leb 0 n (omega arith))
and_zero false n = refl

-- digits after a number do not make it smaller
pub more_digits : (before : ℕ) (digits : List ℕ) → before ≤ digits_value_after 10 before digits
more_digits before [] = omega arith
more_digits before (digit ∷ digits) = omega (arith, more_digits (before * 10 + digit_value digit) digits)

-- the greatest of three, in either grouping
pub max_assoc : (x y z : ℕ) → max (max x y) z ≡ max x (max y z)
max_assoc x y z = omega arith

-- what is not 0 is above it
pub positive : (n : ℕ) → (n ≡ 0 → ⊥) → 0 < n
positive n some = elim (cases_lt 0 n) [ inl is ↦ is | inr least ↦ absurd (some (omega arith)) ]

-- one more and one less
pub one_less : (n : ℕ) → suc n - 1 ≡ n
one_less n = omega arith

-- more than one is two or more, and two or more is more than one
pub two_or_more : (n : ℕ) → nat_le n 1 ≡ false → nat_le 2 n ≡ true
two_or_more n more = le-leb 2 n (let two : 1 < n = leb-false n 1 more in omega (arith, two))

pub many_not_few : (n : ℕ) → nat_le 2 n ≡ true → nat_le n 1 ≡ false
many_not_few n many = lt-leb n 1 (omega (arith, leb-true 2 n many))

different_by : (other mine : ℕ) → mine ≢ other → (b : Bool) → (other == mine) ≡ b → (other == mine) ≡ false
different_by other mine differ true same = absurd (differ (sym (eqb-true other mine same)))
different_by other mine differ false same = same

-- numbers that differ, compared the other way round
pub different_number : (other mine : ℕ) → mine ≢ other → (other == mine) ≡ false
different_number other mine differ = different_by other mine differ (other == mine) refl

-- one more and one less
pub plus_one_less_one : (n : ℕ) → n + 1 - 1 ≡ n
plus_one_less_one n = omega arith

-- what holds of one and two, and of three
pub by_two : (P : ℕ → Type 0) → P 1 → P 2 → (number : ℕ) → 1 ≤ number → number ≤ 2 → P number
by_two P first second zero least most = absurd (omega (arith, least))
by_two P first second (suc zero) least most = first
by_two P first second (suc (suc zero)) least most = second
by_two P first second (suc (suc (suc number))) least most = absurd (omega (arith, most))

pub by_three : (P : ℕ → Type 0) → P 1 → P 2 → P 3 → (number : ℕ) → 1 ≤ number → number ≤ 3 → P number
by_three P first second third zero least most = absurd (omega (arith, least))
by_three P first second third (suc zero) least most = first
by_three P first second third (suc (suc zero)) least most = second
by_three P first second third (suc (suc (suc zero))) least most = third
by_three P first second third (suc (suc (suc (suc number)))) least most = absurd (omega (arith, most))

pub next_above : (a b : ℕ) → a ≤ b → nat_eq a b ≡ false → a + 1 ≤ b
next_above a b below unequal = grind arith

pub unequal : (a b : ℕ) → nat_eq a b ≡ false → a ≢ b
unequal a b is same = let yes_is : nat_eq a b ≡ true = eq-eqb a b same in absurd cc

pub unequal_other : (number n : ℕ) → (number == n) ≡ false → n ≢ number
unequal_other number n differ same = let yes_is : (number == n) ≡ true = eq-eqb number n (sym same) in absurd cc

pub few_by_test : (n : ℕ) → n < 2 → nat_le 2 n ≡ false
few_by_test n few = grind (arith, nat_tests)

pub many_by_test : (n : ℕ) → 2 ≤ n → nat_le 2 n ≡ true
many_by_test n few = le-leb 2 n few

pub less_trans : (x y z : ℕ) → nat_lt x y ≡ true → nat_lt y z ≡ true → nat_lt x z ≡ true
less_trans x y z p q = lt-ltb x z (let one : x < y = ltb-true x y p in let two : y < z = ltb-true y z q in omega (arith, one, two))

-- what grows is still two or more
pub two_still : (less more : ℕ) → less ≤ more → nat_le 2 less ≡ true → nat_le 2 more ≡ true
two_still less more on is = le-leb 2 more (omega (arith, on, leb-true 2 less is))

pub none_below : (a b : ℕ) → b ≤ a → nat_lt 0 a ≡ false → nat_lt 0 b ≡ false
none_below a b less is = le-ltb 0 b (omega (arith, less, ltb-false 0 a is))

-- a number is not another one
pub not_other : (number : ℕ) → not (number == number) ≡ false
not_other number = not_from_true (number == number) (eq-eqb number number refl)

pub equal_by_test : (m n : ℕ) → eqb m n ≡ true → m ≡ n
equal_by_test m n same = grind (arith, nat_tests, same)

pub same_number : (number : ℕ) → (number == number) ≡ true
same_number number = is_true (number == number) (eqb_refl number)
