-- Heights that fit and are a straight are five heights that occur, and conversely; the bits of a
-- mask show them.
use Rattle.std.proofs.Common.{◌≡◌, ◌↔◌, ℕ, ◌+◌, ◌-◌, ◌/◌, ◌^◌, ◌<◌, ◌≤◌, ◌==◌, ◌&&◌, ◌||◌, Bool, true, false, cond, List, [], ◌∷◌, length, ◌⊎◌, inl, inr, refl, sym, ap, subst, arith, eqb-true, eq-eqb, bit_and, max}
use Rattle.std.specs.Int.{bit_at}
use Rattle.std.proofs.lemmas.Bool.{cases_lt, and_parts, or_cases, ne_eqb}
use Rattle.std.proofs.lemmas.Nat.Bits.{bit_at_and, bit_at-lt}
use Rattle.hand_order.specs.declared.straights.LowStraight.{LowStraight}
use Rattle.hand_order.specs.declared.straights.LowStraight.TheVariants as straights
use Rattle.hand_order.specs.Patterns.{without, Fits, pattern}
use Rattle.hand_order.specs.StraightRanks.{HasLow, HasRun, HasStraight, IsRunFrom, has_ace_and_four}
use Rattle.hand_order.specs.Straights.{is_run, is_low_straight, straight_top}
use Rattle.hand_order.specs.Tops.{Shows}
use Rattle.hand_order.proofs.FallingRanks.{FallingFrom, fits_below}
use Rattle.hand_order.proofs.OwnRanks.{several}
use Rattle.card_set.proofs.Bits.{moved}
use Rattle.card_set.proofs.Tests.{all_five, all_four, five_all}

without-le : (T : ℕ → ℕ) (h k : ℕ) → without T h k ≤ T k
without-le T h k = by_test (h == k)
  where
    by_test : (b : Bool) → cond b 0 (T k) ≤ T k
    by_test true = omega arith
    by_test false = omega arith

-- five heights that fit occur
pub five_occur : (T : ℕ → ℕ) (a b c d e : ℕ) → Fits T (pattern 0) (a ∷ b ∷ c ∷ d ∷ e ∷ []) → (0 < T a) × (0 < T b) × (0 < T c) × (0 < T d) × (0 < T e)
five_occur T a b c d e fits =
    let T1 = without T a in
    let T2 = without T1 b in
    let T3 = without T2 c in (
      omega (arith, fits.0),
      omega (arith, fits.1.0, without-le T a b),
      omega (arith, fits.1.1.0, without-le T1 b c, without-le T a c),
      omega (arith, fits.1.1.1.0, without-le T2 c d, without-le T1 b d, without-le T a d),
      omega (arith, fits.1.1.1.1.0, without-le T3 d e, without-le T2 c e, without-le T1 b e, without-le T a e),
    )

run_top : (T : ℕ → ℕ) (a b c d e : ℕ) → ((h : ℕ) → 0 < T h → 2 ≤ h) → (0 < T a) × (0 < T b) × (0 < T c) × (0 < T d) × (0 < T e) → is_run (a ∷ b ∷ c ∷ d ∷ e ∷ []) ≡ true → HasRun T (straight_top (a ∷ b ∷ c ∷ d ∷ e ∷ []))
run_top T a b c d e past occur run =
    let one = and_parts (a == b + 1 && b == c + 1 && c == d + 1) (d == e + 1) run in
    let two = and_parts (a == b + 1 && b == c + 1) (c == d + 1) one.0 in
    let three = and_parts (a == b + 1) (b == c + 1) two.0 in
    let ab = eqb-true a (b + 1) three.0 in
    let bc = eqb-true b (c + 1) three.1 in
    let cd = eqb-true c (d + 1) two.1 in
    let de = eqb-true d (e + 1) one.1 in
    let low = past e occur.4 in
    subst (HasRun T) (ap (λ (t : Bool). cond t a b) (sym three.0))
    (omega arith, occur.0, subst (λ (k : ℕ). 0 < T k) (omega arith) occur.1, subst (λ (k : ℕ). 0 < T k) (omega arith) occur.2, subst (λ (k : ℕ). 0 < T k) (omega arith) occur.3, subst (λ (k : ℕ). 0 < T k) (omega arith) occur.4)

-- falling heights that occur fit
abbrev pub Occur : (ℕ → ℕ) → List ℕ → Type 0
Occur T [] = Unit {0}
Occur T (h ∷ hs) = (0 < T h) × Occur T hs

pub ones_fit : (T : ℕ → ℕ) (bound : ℕ) (hs : List ℕ) → FallingFrom bound hs → Occur T hs → Fits T (several (length hs) 1) hs
ones_fit T bound [] falling occur = tt
ones_fit T bound (h ∷ hs) falling occur = (omega (arith, occur.0), fits_below T (several (length hs) 1) hs h h (omega arith) falling.1 (ones_fit T h hs falling.1 occur.1))

-- a straight that the ace begins
low_top : (low : LowStraight) (T : ℕ → ℕ) (a b c d e : ℕ) → (0 < T a) × (0 < T b) × (0 < T c) × (0 < T d) × (0 < T e) → is_low_straight low (a ∷ b ∷ c ∷ d ∷ e ∷ []) ≡ true → HasLow low T (straight_top (a ∷ b ∷ c ∷ d ∷ e ∷ []))
low_top straights.FiveHigh T a b c d e occur run =
    let all = and_parts (a == 14) (b == 5 && c == 4 && d == 3 && e == 2) run in
    let one = and_parts (b == 5 && c == 4 && d == 3) (e == 2) all.1 in
    let two = and_parts (b == 5 && c == 4) (d == 3) one.0 in
    let three = and_parts (b == 5) (c == 4) two.0 in
    let is_a = eqb-true a 14 all.0 in
    let is_b = eqb-true b 5 three.0 in
    let off : (a == b + 1) ≡ false = ne_eqb a (b + 1) (λ same. omega arith) in
    subst (HasLow straights.FiveHigh T) (ap (λ (t : Bool). cond t a b) (sym off))
    (is_b, subst (λ (k : ℕ). 0 < T k) is_a occur.0, subst (λ (k : ℕ). 0 < T k) is_b occur.1, subst (λ (k : ℕ). 0 < T k) (eqb-true c 4 three.1) occur.2, subst (λ (k : ℕ). 0 < T k) (eqb-true d 3 two.1) occur.3, subst (λ (k : ℕ). 0 < T k) (eqb-true e 2 one.1) occur.4)
low_top straights.NineHigh T a b c d e occur run =
    let all = and_parts (a == 14) (b == 9 && c == 8 && d == 7 && e == 6) run in
    let one = and_parts (b == 9 && c == 8 && d == 7) (e == 6) all.1 in
    let two = and_parts (b == 9 && c == 8) (d == 7) one.0 in
    let three = and_parts (b == 9) (c == 8) two.0 in
    let is_a = eqb-true a 14 all.0 in
    let is_b = eqb-true b 9 three.0 in
    let off : (a == b + 1) ≡ false = ne_eqb a (b + 1) (λ same. omega arith) in
    subst (HasLow straights.NineHigh T) (ap (λ (t : Bool). cond t a b) (sym off))
    (is_b, subst (λ (k : ℕ). 0 < T k) is_a occur.0, subst (λ (k : ℕ). 0 < T k) is_b occur.1, subst (λ (k : ℕ). 0 < T k) (eqb-true c 8 three.1) occur.2, subst (λ (k : ℕ). 0 < T k) (eqb-true d 7 two.1) occur.3, subst (λ (k : ℕ). 0 < T k) (eqb-true e 6 one.1) occur.4)
low_top straights.Nothing T a b c d e occur run = absurd (nothing (a == 14) run)
  where
    nothing : (t : Bool) → (t && false) ≡ true → ⊥
    nothing true is = absurd (cc)
    nothing false is = absurd (cc)

-- if a straight fits, its heights occur
pub straight_has : (low : LowStraight) (T : ℕ → ℕ) (hs : List ℕ) → ((h : ℕ) → 0 < T h → 2 ≤ h) → Fits T (pattern 0) hs → (is_run hs || is_low_straight low hs) ≡ true → HasStraight low T (straight_top hs)
straight_has low T [] past fits run = absurd fits
straight_has low T (a ∷ []) past fits run = absurd fits.1
straight_has low T (a ∷ b ∷ []) past fits run = absurd fits.1.1
straight_has low T (a ∷ b ∷ c ∷ []) past fits run = absurd fits.1.1.1
straight_has low T (a ∷ b ∷ c ∷ d ∷ []) past fits run = absurd fits.1.1.1.1
straight_has low T (a ∷ b ∷ c ∷ d ∷ e ∷ []) past fits run =
    let occur = five_occur T a b c d e fits in
    elim (or_cases (is_run (a ∷ b ∷ c ∷ d ∷ e ∷ [])) (is_low_straight low (a ∷ b ∷ c ∷ d ∷ e ∷ [])) run) [
      | inl plain ↦ inl (run_top T a b c d e past occur plain)
      | inr begun ↦ inr (low_top low T a b c d e occur begun)
    ]
straight_has low T (a ∷ b ∷ c ∷ d ∷ e ∷ f ∷ rest) past fits run = absurd fits.1.1.1.1.1

-- falling heights that make a straight with this top and fit
pub record IsFoundStraight (low : LowStraight) (T : ℕ → ℕ) (top : ℕ) : Type 0 where
  pub hs : List ℕ
  pub bound : ℕ
  pub fits : Fits T (pattern 0) hs
  pub falling : FallingFrom bound hs
  pub run : (is_run hs || is_low_straight low hs) ≡ true
  pub tops : straight_top hs ≡ top

run_list : (low : LowStraight) (T : ℕ → ℕ) (e : ℕ) → Occur T ((e + 4) ∷ (e + 3) ∷ (e + 2) ∷ (e + 1) ∷ e ∷ []) → IsFoundStraight low T (e + 4)
run_list low T e occur =
    let falling : FallingFrom (e + 5) ((e + 4) ∷ (e + 3) ∷ (e + 2) ∷ (e + 1) ∷ e ∷ []) = search arith in
    let run : is_run ((e + 4) ∷ (e + 3) ∷ (e + 2) ∷ (e + 1) ∷ e ∷ []) ≡ true = all_four (e + 4 == e + 3 + 1) (e + 3 == e + 2 + 1) (e + 2 == e + 1 + 1) (e + 1 == e + 1) (eq-eqb (e + 4) (e + 3 + 1) (omega arith)) (eq-eqb (e + 3) (e + 2 + 1) (omega arith)) (eq-eqb (e + 2) (e + 1 + 1) (omega arith)) (eq-eqb (e + 1) (e + 1) refl) in
    record {
      hs = (e + 4) ∷ (e + 3) ∷ (e + 2) ∷ (e + 1) ∷ e ∷ [];
      bound = e + 5;
      fits = ones_fit T (e + 5) ((e + 4) ∷ (e + 3) ∷ (e + 2) ∷ (e + 1) ∷ e ∷ []) falling occur;
      falling = falling;
      run = ap (λ (b : Bool). b || is_low_straight low ((e + 4) ∷ (e + 3) ∷ (e + 2) ∷ (e + 1) ∷ e ∷ [])) run;
      tops = ap (λ (b : Bool). cond b (e + 4) (e + 3)) (eq-eqb (e + 4) (e + 3 + 1) (omega arith));
    }

low_list : (low : LowStraight) (T : ℕ → ℕ) (top : ℕ) → HasLow low T top → IsFoundStraight low T top
low_list straights.FiveHigh T top has =
    subst (IsFoundStraight straights.FiveHigh T) (sym has.0)
    (record {
      hs = 14 ∷ 5 ∷ 4 ∷ 3 ∷ 2 ∷ [];
      bound = 15;
      fits = ones_fit T 15 (14 ∷ 5 ∷ 4 ∷ 3 ∷ 2 ∷ []) (search arith) (has.1, (has.2, (has.3, (has.4, (has.5, tt)))));
      falling = search arith;
      run = refl;
      tops = refl;
    })
low_list straights.NineHigh T top has =
    subst (IsFoundStraight straights.NineHigh T) (sym has.0)
    (record {
      hs = 14 ∷ 9 ∷ 8 ∷ 7 ∷ 6 ∷ [];
      bound = 15;
      fits = ones_fit T 15 (14 ∷ 9 ∷ 8 ∷ 7 ∷ 6 ∷ []) (search arith) (has.1, (has.2, (has.3, (has.4, (has.5, tt)))));
      falling = search arith;
      run = refl;
      tops = refl;
    })
low_list straights.Nothing T top has = absurd has

-- heights that occur and make a straight
pub has_list : (low : LowStraight) (T : ℕ → ℕ) (top : ℕ) → HasStraight low T top → IsFoundStraight low T top
has_list low T t (inl run) =
    let found = run_list low T (t - 4) (at t (t - 4 + 4) (omega (arith, run.0)) run.1, (at (t - 1) (t - 4 + 3) (omega (arith, run.0)) run.2, (at (t - 2) (t - 4 + 2) (omega (arith, run.0)) run.3, (at (t - 3) (t - 4 + 1) (omega (arith, run.0)) run.4, (run.5, tt))))) in
    subst (IsFoundStraight low T) (omega (arith, run.0)) found
  where
    at : (k h : ℕ) → k ≡ h → 0 < T k → 0 < T h
    at k h same occurs = subst (λ (j : ℕ). 0 < T j) same occurs
has_list low T t (inr begun) = low_list low T t begun

-- a bit that shows a height
bit_of : (mask : ℕ) (T : ℕ → ℕ) (k h : ℕ) → Shows mask 1 T → k + 2 ≡ h → 0 < T h → bit_at mask k ≡ 1
bit_of mask T k h shows is occurs = (shows.each k).1 (subst (λ (j : ℕ). 0 < T j) (sym is) occurs)

height_of : (mask : ℕ) (T : ℕ → ℕ) (k h : ℕ) → Shows mask 1 T → k + 2 ≡ h → bit_at mask k ≡ 1 → 0 < T h
height_of mask T k h shows is set = subst (λ (j : ℕ). 0 < T j) is ((shows.each k).0 set)

-- the bits that five masks have, each moved down once more
pub runs_bits : (mask k : ℕ) → (bit_at (bit_and (bit_and (bit_and (bit_and mask (mask / 2 ^ 1)) (mask / 2 ^ 2)) (mask / 2 ^ 3)) (mask / 2 ^ 4)) k ≡ 1) ↔ IsRunFrom mask k
runs_bits mask k =
    let a = bit_at_and (bit_and (bit_and (bit_and mask (mask / 2 ^ 1)) (mask / 2 ^ 2)) (mask / 2 ^ 3)) (mask / 2 ^ 4) k in
    let b = bit_at_and (bit_and (bit_and mask (mask / 2 ^ 1)) (mask / 2 ^ 2)) (mask / 2 ^ 3) k in
    let c = bit_at_and (bit_and mask (mask / 2 ^ 1)) (mask / 2 ^ 2) k in
    let d = bit_at_and mask (mask / 2 ^ 1) k in (
      λ set. (omega (arith, a, b, c, d, moved mask 1 k, moved mask 2 k, moved mask 3 k, moved mask 4 k, bit_at-lt mask k), omega (arith, a, b, c, d, moved mask 1 k, moved mask 2 k, moved mask 3 k, moved mask 4 k, bit_at-lt mask (k + 1)), omega (arith, a, b, c, d, moved mask 1 k, moved mask 2 k, moved mask 3 k, moved mask 4 k, bit_at-lt mask (k + 2)), omega (arith, a, b, c, d, moved mask 1 k, moved mask 2 k, moved mask 3 k, moved mask 4 k, bit_at-lt mask (k + 3)), omega (arith, a, b, c, d, moved mask 1 k, moved mask 2 k, moved mask 3 k, moved mask 4 k, bit_at-lt mask (k + 4))),
      λ run. omega (arith, a, b, c, d, moved mask 1 k, moved mask 2 k, moved mask 3 k, moved mask 4 k, run.0, run.1, run.2, run.3, run.4),
    )

-- no five heights in a row are above those that are found
pub run_most : (mask runs : ℕ) (T : ℕ → ℕ) (top : ℕ) → Shows mask 1 T → ((k : ℕ) → (bit_at runs k ≡ 1) ↔ IsRunFrom mask k) → HasRun T top → bit_at runs (top - 6) ≡ 1
run_most mask runs T top shows bits run =
    (bits (top - 6)).1 (
      bit_of mask T (top - 6) (top - 4) shows (omega (arith, run.0)) run.5,
      bit_of mask T (top - 6 + 1) (top - 3) shows (omega (arith, run.0)) run.4,
      bit_of mask T (top - 6 + 2) (top - 2) shows (omega (arith, run.0)) run.3,
      bit_of mask T (top - 6 + 3) (top - 1) shows (omega (arith, run.0)) run.2,
      bit_of mask T (top - 6 + 4) top shows (omega (arith, run.0)) run.1,
    )

-- and those that are found occur
pub run_found : (mask runs : ℕ) (T : ℕ → ℕ) (place : ℕ) → Shows mask 1 T → ((k : ℕ) → (bit_at runs k ≡ 1) ↔ IsRunFrom mask k) → bit_at runs place ≡ 1 → HasRun T (place + 6)
run_found mask runs T place shows bits set =
    let run = (bits place).0 set in (
      omega arith,
      height_of mask T (place + 4) (place + 6) shows (omega arith) run.4,
      height_of mask T (place + 3) (place + 6 - 1) shows (omega arith) run.3,
      height_of mask T (place + 2) (place + 6 - 2) shows (omega arith) run.2,
      height_of mask T (place + 1) (place + 6 - 3) shows (omega arith) run.1,
      height_of mask T place (place + 6 - 4) shows (omega arith) run.0,
    )

-- the bits of the straight that the ace begins are those of its heights
low_bits : (mask : ℕ) (T : ℕ → ℕ) (least : ℕ) → Shows mask 1 T → (0 < T 14) × (0 < T (least + 5)) × (0 < T (least + 4)) × (0 < T (least + 3)) × (0 < T (least + 2)) → has_ace_and_four mask least ≡ true
low_bits mask T least shows occur =
    all_five _ _ _ _ _
    (eq-eqb (bit_at mask 12) 1 (bit_of mask T 12 14 shows refl occur.0))
    (eq-eqb (bit_at mask least) 1 (bit_of mask T least (least + 2) shows refl occur.4))
    (eq-eqb (bit_at mask (least + 1)) 1 (bit_of mask T (least + 1) (least + 3) shows (omega arith) occur.3))
    (eq-eqb (bit_at mask (least + 2)) 1 (bit_of mask T (least + 2) (least + 4) shows (omega arith) occur.2))
    (eq-eqb (bit_at mask (least + 3)) 1 (bit_of mask T (least + 3) (least + 5) shows (omega arith) occur.1))

low_heights : (mask : ℕ) (T : ℕ → ℕ) (least : ℕ) → Shows mask 1 T → has_ace_and_four mask least ≡ true → (0 < T 14) × (0 < T (least + 5)) × (0 < T (least + 4)) × (0 < T (least + 3)) × (0 < T (least + 2))
low_heights mask T least shows set =
    let parts = five_all (bit_at mask 12 == 1) (bit_at mask least == 1) (bit_at mask (least + 1) == 1) (bit_at mask (least + 2) == 1) (bit_at mask (least + 3) == 1) set in (
      height_of mask T 12 14 shows refl (eqb-true (bit_at mask 12) 1 parts.0),
      height_of mask T (least + 3) (least + 5) shows (omega arith) (eqb-true (bit_at mask (least + 3)) 1 parts.4),
      height_of mask T (least + 2) (least + 4) shows (omega arith) (eqb-true (bit_at mask (least + 2)) 1 parts.3),
      height_of mask T (least + 1) (least + 3) shows (omega arith) (eqb-true (bit_at mask (least + 1)) 1 parts.2),
      height_of mask T least (least + 2) shows refl (eqb-true (bit_at mask least) 1 parts.1),
    )

pub five_bits : (mask : ℕ) (T : ℕ → ℕ) (top : ℕ) → Shows mask 1 T → HasLow straights.FiveHigh T top → has_ace_and_four mask 0 ≡ true
five_bits mask T top shows has = low_bits mask T 0 shows (has.1, has.2, has.3, has.4, has.5)

pub five_heights : (mask : ℕ) (T : ℕ → ℕ) → Shows mask 1 T → has_ace_and_four mask 0 ≡ true → HasLow straights.FiveHigh T 5
five_heights mask T shows set = let occur = low_heights mask T 0 shows set in (refl, occur.0, occur.1, occur.2, occur.3, occur.4)

pub nine_bits : (mask : ℕ) (T : ℕ → ℕ) (top : ℕ) → Shows mask 1 T → HasLow straights.NineHigh T top → has_ace_and_four mask 4 ≡ true
nine_bits mask T top shows has = low_bits mask T 4 shows (has.1, has.2, has.3, has.4, has.5)

pub nine_heights : (mask : ℕ) (T : ℕ → ℕ) → Shows mask 1 T → has_ace_and_four mask 4 ≡ true → HasLow straights.NineHigh T 9
nine_heights mask T shows set = let occur = low_heights mask T 4 shows set in (refl, occur.0, occur.1, occur.2, occur.3, occur.4)

-- the greater of two tops
pub tops_most : (low : LowStraight) (T : ℕ → ℕ) (run begun most top : ℕ) → (HasRun T top → top ≤ run) → (HasLow low T top → top ≤ begun) → most ≡ max run begun → HasStraight low T top → top ≤ most
tops_most low T run begun most top runs lows is (inl has) = omega (arith, runs has)
tops_most low T run begun most top runs lows is (inr has) = omega (arith, lows has)

pub tops_found : (low : LowStraight) (T : ℕ → ℕ) (run begun most : ℕ) → (run ≡ 0) ⊎ HasRun T run → (begun ≡ 0) ⊎ HasLow low T begun → most ≡ max run begun → (most ≡ 0) ⊎ HasStraight low T most
tops_found low T run begun most runs lows is =
    elim (cases_lt run begun) [
      | inl less ↦
          let same : begun ≡ most = omega arith in
          elim lows [ inl none ↦ absurd (omega arith) | inr has ↦ inr (inr (subst (HasLow low T) same has)) ]
      | inr least ↦
          let same : run ≡ most = omega arith in
          elim runs [ inl none ↦ inl (omega arith) | inr has ↦ inr (inl (subst (HasRun T) same has)) ]
    ]
