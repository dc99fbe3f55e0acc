-- No seat that contends has more than the most points, and at least one has them: those that have
-- them are the winners.
use Rattle.std.proofs.Common.{◌≡◌, ◌<◌, ◌≤◌, ℕ, zero, suc, ◌+◌, ◌&&◌, Bool, true, false, ◌⊎◌, inl, inr, Option, Some, None, if◌then◌else◌, max, refl, sym, ◌∙◌, ap, subst, arith}
use Rattle.std.specs.Option.{is_some}
use Rattle.std.proofs.lemmas.Bool.{and_from, and_parts, cases_lt, eq-eqb, eqb-true}
use Rattle.std.proofs.lemmas.Option.{same_Some}
use Rattle.hand_order.specs.Best.{IsLess}
use Rattle.hand_order.specs.Points.{better}
use Rattle.variant_table.specs.Division.{TellsWinners, count_to}
use Rattle.variant_table.specs.Shares.{IsLowShown}
use Rattle.showdown_split.specs.SeatPoints.{best_to, ranking_by, is_same}

-- tests that agree on the seats up to one have the same best
pub best_to-agree : (p q : ℕ → Bool) (points : ℕ → Option ℕ) (n : ℕ) → ((k : ℕ) → 1 ≤ k → k ≤ n → p k ≡ q k) → best_to p points n ≡ best_to q points n
best_to-agree p q points zero same = refl
best_to-agree p q points (suc n) same =
    ap (λ (rest : Option ℕ). if p (suc n) then better rest (points (suc n)) else rest) (best_to-agree p q points n (λ k low high. same k low (omega arith)))
    ∙ ap (λ (b : Bool). if b then better (best_to q points n) (points (suc n)) else best_to q points n) (same (suc n) (omega arith) (omega arith))

-- the better of two is not less than either
better_right : (a b : Option ℕ) → ¬ (IsLess (better a b) b)
better_right None None less = less
better_right None (Some y) less = absurd (omega (arith, less))
better_right (Some x) None less = less
better_right (Some x) (Some y) less = absurd (omega (arith, less))

better_left : (a b c : Option ℕ) → ¬ (IsLess a c) → ¬ (IsLess (better a b) c)
better_left None None c not less = not less
better_left None (Some y) None not less = less
better_left None (Some y) (Some z) not less = not tt
better_left (Some x) None c not less = not less
better_left (Some x) (Some y) None not less = less
better_left (Some x) (Some y) (Some z) not less = not (omega (arith, less))

-- and is one of them
better_is : (a b : Option ℕ) (v : ℕ) → better a b ≡ Some v → (a ≡ Some v) ⊎ (b ≡ Some v)
better_is None b v is = inr is
better_is (Some x) None v is = inl is
better_is (Some x) (Some y) v is =
    let e = same_Some (max x y) v is in
    elim (cases_lt x y) [ inl less ↦ inr (ap (λ (n : ℕ). Some n) (omega (arith, e, less))) | inr more ↦ inl (ap (λ (n : ℕ). Some n) (omega (arith, e, more))) ]

-- the best is not less than the points of a seat that passes the test
pub best_above : (test : ℕ → Bool) (points : ℕ → Option ℕ) (n k : ℕ) → 1 ≤ k → k ≤ n → test k ≡ true → ¬ (IsLess (best_to test points n) (points k))
best_above test points zero k low high passes = absurd (omega (arith, low, high))
best_above test points (suc n) k low high passes =
    elim (cases_lt k (suc n)) [
      | inl before ↦ kept (test (suc n)) (best_to test points n) (points (suc n)) (points k) (best_above test points n k low (omega (arith, before)) passes)
      | inr last ↦
          let here : k ≡ suc n = omega (arith, last, high) in
          subst (λ (m : ℕ). ¬ (IsLess (best_to test points (suc n)) (points m))) (sym here)
          (subst (λ (b : Bool). ¬ (IsLess (if b then better (best_to test points n) (points (suc n)) else best_to test points n) (points (suc n)))) (sym (ap test (sym here) ∙ passes))
          (better_right (best_to test points n) (points (suc n))))
    ]
  where
    kept : (b : Bool) (rest here other : Option ℕ) → ¬ (IsLess rest other) → ¬ (IsLess (if b then better rest here else rest) other)
    kept true rest here other not = better_left rest here other not
    kept false rest here other not = not

-- a seat that passes the test and has these points
pub record IsAttained (test : ℕ → Bool) (points : ℕ → Option ℕ) (n v : ℕ) : Type 0 where
  pub seat : ℕ
  pub first : 1 ≤ seat
  pub last : seat ≤ n
  pub passes : test seat ≡ true
  pub points_are : points seat ≡ Some v

-- the best is attained
pub best_attained : (test : ℕ → Bool) (points : ℕ → Option ℕ) (n v : ℕ) → best_to test points n ≡ Some v → IsAttained test points n v
best_attained test points zero v is = absurd (cc (is))
best_attained test points (suc n) v is = next (λ rest. best_attained test points n v rest) (test (suc n)) refl is
  where
    later : IsAttained test points n v → IsAttained test points (suc n) v
    later found = record { seat = found.seat; first = found.first; last = omega (arith, found.last); passes = found.passes; points_are = found.points_are }

    next : (best_to test points n ≡ Some v → IsAttained test points n v) → (b : Bool) → test (suc n) ≡ b → (if b then better (best_to test points n) (points (suc n)) else best_to test points n) ≡ Some v → IsAttained test points (suc n) v
    next before true passes is =
        elim (better_is (best_to test points n) (points (suc n)) v is) [
          | inl rest ↦ later (before rest)
          | inr here ↦ record { seat = suc n; first = omega arith; last = omega arith; passes = passes; points_are = here }
        ]
    next before false passes is = later (before is)

-- points that are the same, both ways
same_equal : (x y : Option ℕ) → is_same x y ≡ true → x ≡ y
same_equal None None is = refl
same_equal None (Some y) is = absurd (cc (is))
same_equal (Some x) None is = absurd (cc (is))
same_equal (Some x) (Some y) is = ap (λ (n : ℕ). Some n) (eqb-true x y is)

same_from : (x y : Option ℕ) → ¬ (IsLess x y) → ¬ (IsLess y x) → is_same x y ≡ true
same_from None None below above = refl
same_from None (Some y) below above = absurd (below tt)
same_from (Some x) None below above = absurd (above tt)
same_from (Some x) (Some y) below above =
    eq-eqb x y (elim (cases_lt x y) [ inl less ↦ absurd (below less) | inr more ↦ elim (cases_lt y x) [ inl less ↦ absurd (above less) | inr other ↦ omega (arith, more, other) ] ])

not_less_none : (x : Option ℕ) → ¬ (IsLess x None)
not_less_none None less = less
not_less_none (Some x) less = less

-- a seat has the most points if no seat of the test has more
best_of_unbeaten : (test : ℕ → Bool) (points : ℕ → Option ℕ) (n k : ℕ) → 1 ≤ k → k ≤ n → test k ≡ true → ((other : ℕ) → test other ≡ true → ¬ (IsLess (points k) (points other))) → is_same (points k) (best_to test points n) ≡ true
best_of_unbeaten test points n k low high passes unbeaten =
    same_from (points k) (best_to test points n) (top (best_to test points n) refl) (best_above test points n k low high passes)
  where
    top : (best : Option ℕ) → best_to test points n ≡ best → ¬ (IsLess (points k) best)
    top None is = not_less_none (points k)
    top (Some v) is =
        let found = best_attained test points n v is in
        subst (λ (w : Option ℕ). ¬ (IsLess (points k) w)) found.points_are (unbeaten found.seat found.passes)

-- the seats that contend and have the most points
abbrev pub has_best : (ℕ → Bool) → (ℕ → Option ℕ) → ℕ → ℕ → Bool
has_best contending points seats seat = contending seat && is_same (points seat) (best_to contending points seats)

-- they are the winners
pub best_win : (seats : ℕ) (contending : ℕ → Bool) (points : ℕ → Option ℕ) → ((n : ℕ) → contending n ≡ true → (1 ≤ n) × (n ≤ seats)) → TellsWinners contending (λ seat other. IsLess (points other) (points seat)) (has_best contending points seats)
best_win seats contending points inside seat = (
  λ wins.
      let parts = and_parts (contending seat) (is_same (points seat) (best_to contending points seats)) wins in (
        parts.0,
        λ other contends less.
            let range = inside other contends in
            best_above contending points seats other range.0 range.1 contends (subst (λ (w : Option ℕ). IsLess w (points other)) (same_equal (points seat) (best_to contending points seats) parts.1) less),
      ),
  λ unbeaten.
      let range = inside seat unbeaten.0 in
      and_from (contending seat) (is_same (points seat) (best_to contending points seats)) unbeaten.0 (best_of_unbeaten contending points seats seat range.0 range.1 unbeaten.0 unbeaten.1),
)

-- one of the seats that contend wins
pub record IsWon (seats : ℕ) (wins : ℕ → Bool) : Type 0 where
  pub seat : ℕ
  pub first : 1 ≤ seat
  pub last : seat ≤ seats
  pub win : wins seat ≡ true

pub some_wins : (seats : ℕ) (contending : ℕ → Bool) (points : ℕ → Option ℕ) (n : ℕ) → 1 ≤ n → n ≤ seats → contending n ≡ true → IsWon seats (has_best contending points seats)
some_wins seats contending points n low high contends = by (best_to contending points seats) refl
  where
    by : (best : Option ℕ) → best_to contending points seats ≡ best → IsWon seats (has_best contending points seats)
    by None is = record {
      seat = n;
      first = low;
      last = high;
      win =
          and_from (contending n) (is_same (points n) (best_to contending points seats)) contends
          (same_from (points n) (best_to contending points seats) (subst (λ (best : Option ℕ). ¬ (IsLess (points n) best)) (sym is) (not_less_none (points n))) (best_above contending points seats n low high contends));
    }
    by (Some v) is =
        let found = best_attained contending points seats v is in
        let same : is_same (points found.seat) (best_to contending points seats) ≡ true =
        subst (λ (best : Option ℕ). is_same (points found.seat) best ≡ true) (sym is) (subst (λ (w : Option ℕ). is_same w (Some v) ≡ true) (sym found.points_are) (eq-eqb v v refl)) in
        record {
          seat = found.seat;
          first = found.first;
          last = found.last;
          win = and_from (contending found.seat) (is_same (points found.seat) (best_to contending points seats)) found.passes same;
        }

-- if a seat passes a test, the count is above 0
pub count_some : (test : ℕ → Bool) (n k : ℕ) → 1 ≤ k → k ≤ n → test k ≡ true → 0 < count_to test n
count_some test zero k low high passes = absurd (omega (arith, low, high))
count_some test (suc n) k low high passes =
    elim (cases_lt k (suc n)) [
      | inl before ↦ let rest = count_some test n k low (omega (arith, before)) passes in omega arith
      | inr last ↦
          let here : k ≡ suc n = omega (arith, last, high) in
          subst (λ (b : Bool). 0 < count_to test n + (if b then 1 else 0)) (sym (ap test (sym here) ∙ passes)) (omega arith)
    ]

-- a low hand is shown if and only if there is a best one
pub no_low_shown : (seats : ℕ) (contending : ℕ → Bool) (points low : ℕ → Option ℕ) → ((n : ℕ) → contending n ≡ true → (1 ≤ n) × (n ≤ seats)) → best_to contending low seats ≡ None → ¬ (IsLowShown contending (ranking_by points low))
no_low_shown seats contending points low inside none (seat, contends, has) =
    let range = inside seat contends in
    no_points (low seat) (subst (λ (best : Option ℕ). ¬ (IsLess best (low seat))) none (best_above contending low seats seat range.0 range.1 contends)) has
  where
    no_points : (w : Option ℕ) → ¬ (IsLess None w) → ¬ (is_some w ≡ true)
    no_points None not has = cc (has)
    no_points (Some v) not has = not tt

pub low_shown : (seats : ℕ) (contending : ℕ → Bool) (points low : ℕ → Option ℕ) (v : ℕ) → best_to contending low seats ≡ Some v → IsLowShown contending (ranking_by points low)
low_shown seats contending points low v is =
    let found = best_attained contending low seats v is in
    (found.seat, found.passes, ap is_some found.points_are)
