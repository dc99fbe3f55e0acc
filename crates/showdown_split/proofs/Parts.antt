-- The parts of chips that are divided among some winners are at most the chips, and together they
-- are the chips.
use Rattle.std.proofs.Common.{◌≡◌, ◌<◌, ◌≤◌, ℕ, zero, suc, ◌+◌, ◌-◌, ◌*◌, ◌/◌, ◌%◌, Bool, true, false, if◌then◌else◌, nat_lt, sum_by, min, refl, sym, ◌∙◌, ap, arith, ⊎_elim}
use Rattle.std.proofs.Math.Nat.{mod-lt, mul-suc, mul-zero}
use Rattle.std.proofs.lemmas.Nat.{div-add-mod'}
use Rattle.std.proofs.lemmas.Bool.{cases_lt, lt-ltb, ltb-true}
use Rattle.chip_ledger.specs.Seat.{seats_of}
use Rattle.chip_ledger.proofs.Seats.{sum_of_seats_more}
use Rattle.variant_table.specs.Division.{count_to, divided}

-- tests that agree on the seats up to one count as many of them
pub count_to-agree : (p q : ℕ → Bool) (n : ℕ) → ((k : ℕ) → 1 ≤ k → k ≤ n → p k ≡ q k) → count_to p n ≡ count_to q n
count_to-agree p q zero same = refl
count_to-agree p q (suc n) same =
    ap (λ (m : ℕ). m + (if p (suc n) then 1 else 0)) (count_to-agree p q n (λ k low high. same k low (omega arith)))
    ∙ ap (λ (b : Bool). count_to q n + (if b then 1 else 0)) (same (suc n) (omega arith) (omega arith))

-- tests that agree on the seats give them the same parts
pub divided-agree : (seats : ℕ) (p q : ℕ → Bool) (chips n : ℕ) → ((k : ℕ) → 1 ≤ k → k ≤ seats → p k ≡ q k) → 1 ≤ n → n ≤ seats → divided seats p chips n ≡ divided seats q chips n
divided-agree seats p q chips n same low high =
    let before = count_to-agree p q (n - 1) (λ k first last. same k first (omega arith)) in
    let all = count_to-agree p q seats same in
    let part : Bool → ℕ → ℕ → ℕ = λ b some total. if b then chips / total + (if nat_lt some (chips % total) then 1 else 0) else 0 in
    ap (λ (b : Bool). part b (count_to p (n - 1)) (count_to p seats)) (same n low high)
    ∙ ap (λ (m : ℕ). part (q n) m (count_to p seats)) before
    ∙ ap (λ (m : ℕ). part (q n) (count_to q (n - 1)) m) all

-- one more seat takes its part
step : (b less : Bool) (even count odd : ℕ) → nat_lt count odd ≡ less → even * count + min count odd + (if b then even + (if less then 1 else 0) else 0) ≡ even * (count + (if b then 1 else 0)) + min (count + (if b then 1 else 0)) odd
step false less even count odd is =
    let same : even * (count + 0) ≡ even * count = ap (λ (n : ℕ). even * n) (omega arith) in
    omega arith
step true true even count odd is =
    let below = ltb-true count odd is in
    let more = mul-suc even count in
    let next : even * (count + 1) ≡ even * suc count = ap (λ (n : ℕ). even * n) (omega arith) in
    omega arith
step true false even count odd is =
    let above : odd ≤ count = not_below count odd is in
    let more = mul-suc even count in
    let next : even * (count + 1) ≡ even * suc count = ap (λ (n : ℕ). even * n) (omega arith) in
    omega arith
  where
    not_below : (x y : ℕ) → nat_lt x y ≡ false → y ≤ x
    not_below x y none = ⊎_elim (λ (l : x < y). absurd (cc (lt-ltb x y l, none))) (λ (l : y ≤ x). l) (cases_lt x y)

-- the parts of the seats up to one
parts_to : (seats : ℕ) (wins : ℕ → Bool) (chips n : ℕ) → sum_by (divided seats wins chips) (seats_of n) ≡ chips / count_to wins seats * count_to wins n + min (count_to wins n) (chips % count_to wins seats)
parts_to seats wins chips zero = let none : chips / count_to wins seats * 0 ≡ 0 = mul-zero (chips / count_to wins seats) in omega arith
parts_to seats wins chips (suc n) =
    let k = count_to wins seats in
    let here : suc n - 1 ≡ n = omega arith in
    let next : suc n ≡ n + 1 = omega arith in
    ap (λ (m : ℕ). sum_by (divided seats wins chips) (seats_of m)) next
    ∙ sum_of_seats_more (divided seats wins chips) n
    ∙ ap (λ (m : ℕ). sum_by (divided seats wins chips) (seats_of n) + divided seats wins chips m) (sym next)
    ∙ ap (λ (m : ℕ). m + divided seats wins chips (suc n)) (parts_to seats wins chips n)
    ∙ ap (λ (m : ℕ). chips / k * count_to wins n + min (count_to wins n) (chips % k) + (if wins (suc n) then chips / k + (if nat_lt (count_to wins m) (chips % k) then 1 else 0) else 0)) here
    ∙ step (wins (suc n)) (nat_lt (count_to wins n) (chips % k)) (chips / k) (count_to wins n) (chips % k) refl

-- all parts together are the chips
pub parts_total : (seats : ℕ) (wins : ℕ → Bool) (chips : ℕ) → 0 < count_to wins seats → sum_by (divided seats wins chips) (seats_of seats) ≡ chips
parts_total seats wins chips some =
    let k = count_to wins seats in
    let less = mod-lt chips some in
    let whole = div-add-mod' chips k in
    let all = parts_to seats wins chips seats in
    omega arith
