-- If no rank is left out, those that occur at all are the bits that some suit has.
use Rattle.std.proofs.Common.{◌≡◌, ◌↔◌, ℕ, zero, suc, ◌+◌, ◌-◌, ◌<◌, ◌≤◌, ◌==◌, ◌&&◌, Bool, true, false, cond, List, [], ◌∷◌, ◌++◌, refl, sym, ◌∙◌, ap, arith, bit_or, eqb-true, eq-eqb}
use Rattle.std.specs.Int.{bit_at}
use Rattle.std.specs.Prelude.{nat_le}
use Rattle.std.proofs.lemmas.Bool.{le-leb, leb-true}
use Rattle.hand_order.specs.Lowest.{has_height, lowest}
use Rattle.low_rank.specs.RazzBest.{is_free, low_count, place_of}
use Rattle.low_rank.specs.declared.razz.SuitMasks.{SuitMasks}
use Rattle.card_set.proofs.Bits.{all_level}

-- tests that agree have the same lowest heights
lowest-agree : (f g : ℕ → Bool) (heights from need : ℕ) → ((j : ℕ) → j < heights → f (from + j) ≡ g (from + j)) → lowest f heights from need ≡ lowest g heights from need
lowest-agree f g zero from need agree = refl
lowest-agree f g (suc heights) from need agree =
    by_tests (need == 0) (f from) (g from) (ap f {x = from} {y = from + 0} (omega arith) ∙ agree 0 (omega arith) ∙ ap g {x = from + 0} {y = from} (omega arith)) (lowest-agree f g heights (from + 1) (need - 1) next) (lowest-agree f g heights (from + 1) need next)
  where
    next : (j : ℕ) → j < heights → f (from + 1 + j) ≡ g (from + 1 + j)
    next j below =
        ap f {x = from + 1 + j} {y = from + (j + 1)} (omega arith) ∙ agree (j + 1) (omega arith) ∙ ap g {x = from + (j + 1)} {y = from + 1 + j} (omega arith)

    by_tests : (z a b : Bool) → a ≡ b → lowest f heights (from + 1) (need - 1) ≡ lowest g heights (from + 1) (need - 1) → lowest f heights (from + 1) need ≡ lowest g heights (from + 1) need → cond z [] (cond a (lowest f heights (from + 1) (need - 1) ++ from ∷ []) (lowest f heights (from + 1) need)) ≡ cond z [] (cond b (lowest g heights (from + 1) (need - 1) ++ from ∷ []) (lowest g heights (from + 1) need))
    by_tests true a b is fewer same = refl
    by_tests false true true is fewer same = ap (λ (l : List ℕ). l ++ from ∷ []) fewer
    by_tests false false false is fewer same = same
    by_tests false true false is fewer same = absurd (cc)
    by_tests false false true is fewer same = absurd (cc)

-- a test that says the same as another
same_test : (a n : ℕ) → (a ≡ 1) ↔ (1 ≤ n) → (a == 1) ≡ nat_le 1 n
same_test a n same = by_tests (a == 1) (nat_le 1 n) refl refl
  where
    by_tests : (s t : Bool) → (a == 1) ≡ s → nat_le 1 n ≡ t → s ≡ t
    by_tests true true is other = refl
    by_tests false false is other = refl
    by_tests true false is other = sym (le-leb 1 n (same.0 (eqb-true a 1 is))) ∙ other
    by_tests false true is other = sym is ∙ eq-eqb a 1 (same.1 (leb-true 1 n other))

-- the bits that some suit has are the ranks that occur
pub all_free : (masks : SuitMasks) (least heights from need : ℕ) (others : List ℕ) → least ≡ 1 → others ≡ [] → lowest (has_height (bit_or (bit_or (bit_or masks.clubs masks.diamonds) masks.hearts) masks.spades)) heights from need ≡ lowest (is_free (low_count masks) least others) heights from need
all_free masks least heights from need others one none =
    lowest-agree (has_height all) (is_free (low_count masks) 1 []) heights from need (λ j below. same_test (bit_at all (place_of (from + j))) (low_count masks (from + j)) (all_level masks.clubs masks.diamonds masks.hearts masks.spades (place_of (from + j))) ∙ sym (and_true (nat_le 1 (low_count masks (from + j)))))
    ∙ ap (λ (n : ℕ). lowest (is_free (low_count masks) n []) heights from need) (sym one)
    ∙ ap (λ (l : List ℕ). lowest (is_free (low_count masks) least l) heights from need) (sym none)
  where
    all : ℕ
    all = bit_or (bit_or (bit_or masks.clubs masks.diamonds) masks.hearts) masks.spades

    and_true : (b : Bool) → (b && true) ≡ b
    and_true true = refl
    and_true false = refl
