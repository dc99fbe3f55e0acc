-- Up-cards that open at least as early as others open before all that those open before; if they do
-- not, it is the other way round.
use Rattle.std.proofs.Common.{◌≡◌, ℕ, ◌<◌, ◌≤◌, Bool, true, false, ◌&&◌, ◌||◌, ◌==◌, not, nat_lt, inl, inr, List, [], ◌∷◌, sym, arith}
use Rattle.std.proofs.lemmas.Bool.{and_from, cases_lt, eq-eqb, leb-false, leb-true, lt-ltb, ltb-false, ltb-true, not-true, not_from_false, or_cases, or_left, or_parts, or_right, true≢false}
use Rattle.card_set.specs.declared.card.Card.{Card}
use Rattle.card_set.specs.Deck.{deck_index}
use Rattle.card_set.specs.Ranks.{high_ace, low_ace, ranks_of}
use Rattle.card_set.specs.UpCards.{up_high_class, low_class}
use Rattle.play_event.specs.declared.limit.Opener.{Opener}
use Rattle.play_event.specs.declared.limit.Opener.TheVariants.{Blinds, LowUp, HighUp}
use Rattle.play_event.specs.Openers.{is_lower, is_opener_before, card_stands, razz_order}
use Rattle.betting_numbers.specs.Earliest.{is_as_high, is_as_low, opens_no_later}
use Rattle.play_event.proofs.OpenerOrder.{lower_step, worse_trans}
use Rattle.card_set.proofs.Tests.{second_fails}

-- a test by a number, and by more if the numbers are equal, that fails: the other number is less,
-- or they are equal and more fails
turned : (x y : ℕ) (e f l : Bool) → (x ≡ y → e ≡ true) → (x ≡ y → f ≡ true) → (nat_lt x y || (e && l)) ≡ false → (nat_lt y x || (f && not l)) ≡ true
turned x y e f l e_is f_is fails =
    let parts = or_parts (nat_lt x y) (e && l) fails in
    let most : y ≤ x = ltb-false x y parts.0 in
    elim (cases_lt y x) [
      | inl below ↦ or_left (nat_lt y x) (f && not l) (lt-ltb y x below)
      | inr above ↦
          let same : x ≡ y = omega (arith, most, above) in
          or_right (nat_lt y x) (f && not l) (and_from f (not l) (f_is same) (not_from_false l (second_fails e l (e_is same) parts.1)))
    ]

-- lists of ranks, if higher ones open
high_early : (a b x : List ℕ) → is_as_high a b ≡ true → is_lower x b ≡ true → is_lower x a ≡ true
high_early a b [] p q = absurd (true≢false (sym q))
high_early a [] (z ∷ zs) p q = absurd (true≢false (sym q))
high_early [] (y ∷ ys) (z ∷ zs) p q = absurd (true≢false (sym p))
high_early (x ∷ xs) (y ∷ ys) (z ∷ zs) p q =
    lower_step z y x (is_lower zs ys) (is_as_high xs ys) (is_lower zs xs) (λ m l. high_early xs ys zs l m) (or_cases (nat_lt z y) ((z == y) && is_lower zs ys) q) (or_cases (nat_lt y x) ((y == x) && is_as_high xs ys) p)

high_late : (a b x : List ℕ) → is_as_high a b ≡ false → is_lower x a ≡ true → is_lower x b ≡ true
high_late a b [] p q = absurd (true≢false (sym q))
high_late [] b (z ∷ zs) p q = absurd (true≢false (sym q))
high_late (x ∷ xs) [] (z ∷ zs) p q = absurd (true≢false p)
high_late (x ∷ xs) (y ∷ ys) (z ∷ zs) p q =
    lower_step z x y (is_lower zs xs) (not (is_as_high xs ys)) (is_lower zs ys) (λ m l. high_late xs ys zs (not-true (is_as_high xs ys) l) m) (or_cases (nat_lt z x) ((z == x) && is_lower zs xs) q)
    (or_cases (nat_lt x y) ((x == y) && not (is_as_high xs ys)) (turned y x (y == x) (x == y) (is_as_high xs ys) (eq-eqb y x) (λ same. eq-eqb x y (sym same)) p))

-- and if lower ones do
low_early : (a b x : List ℕ) → is_as_low a b ≡ true → is_lower b x ≡ true → is_lower a x ≡ true
low_early a [] x p q = absurd (true≢false (sym q))
low_early [] (y ∷ ys) x p q = absurd (true≢false (sym p))
low_early (x ∷ xs) (y ∷ ys) [] p q = absurd (true≢false (sym q))
low_early (x ∷ xs) (y ∷ ys) (z ∷ zs) p q =
    lower_step x y z (is_as_low xs ys) (is_lower ys zs) (is_lower xs zs) (low_early xs ys zs) (or_cases (nat_lt x y) ((x == y) && is_as_low xs ys) p) (or_cases (nat_lt y z) ((y == z) && is_lower ys zs) q)

low_late : (a b x : List ℕ) → is_as_low a b ≡ false → is_lower a x ≡ true → is_lower b x ≡ true
low_late [] b x p q = absurd (true≢false (sym q))
low_late (x ∷ xs) [] z p q = absurd (true≢false p)
low_late (x ∷ xs) (y ∷ ys) [] p q = absurd (true≢false (sym q))
low_late (x ∷ xs) (y ∷ ys) (z ∷ zs) p q =
    lower_step y x z (not (is_as_low xs ys)) (is_lower xs zs) (is_lower ys zs) (λ l m. low_late xs ys zs (not-true (is_as_low xs ys) l) m)
    (or_cases (nat_lt y x) ((y == x) && not (is_as_low xs ys)) (turned x y (x == y) (y == x) (is_as_low xs ys) (eq-eqb x y) (λ same. eq-eqb y x (sym same)) p)) (or_cases (nat_lt x z) ((x == z) && is_lower xs zs) q)

-- what the others open before is opened before by those that open as early
pub early_opens : (opener : Opener) (first : Bool) (a b x : List Card) → opens_no_later opener first a b ≡ true → is_opener_before opener first b x ≡ true → is_opener_before opener first a x ≡ true
early_opens LowUp true a b x p q =
    let stand : List Card → ℕ = card_stands deck_index in
    lt-ltb (stand a) (stand x) (let one : stand a ≤ stand b = leb-true (stand a) (stand b) p in let two : stand b < stand x = ltb-true (stand b) (stand x) q in omega (arith, one, two))
early_opens HighUp true a b x p q =
    let stand : List Card → ℕ = card_stands razz_order in
    lt-ltb (stand x) (stand a) (let one : stand b ≤ stand a = leb-true (stand b) (stand a) p in let two : stand x < stand b = ltb-true (stand x) (stand b) q in omega (arith, one, two))
early_opens LowUp false a b x p q =
    let heights : List Card → List ℕ = ranks_of high_ace in
    worse_trans (up_high_class a) (up_high_class b) (up_high_class x) (is_as_high (heights a) (heights b)) (is_lower (heights x) (heights b)) (is_lower (heights x) (heights a)) (high_early (heights a) (heights b) (heights x)) p q
early_opens HighUp false a b x p q =
    let heights : List Card → List ℕ = ranks_of low_ace in
    worse_trans (low_class a) (low_class b) (low_class x) (is_as_low (heights a) (heights b)) (is_lower (heights b) (heights x)) (is_lower (heights a) (heights x)) (low_early (heights a) (heights b) (heights x)) p q
early_opens Blinds first a b x p q = absurd (true≢false (sym q))

-- what is opened before by those that do not open as early is opened before by the others too
pub late_opens : (opener : Opener) (first : Bool) (a b x : List Card) → opens_no_later opener first a b ≡ false → is_opener_before opener first a x ≡ true → is_opener_before opener first b x ≡ true
late_opens LowUp true a b x p q =
    let stand : List Card → ℕ = card_stands deck_index in
    lt-ltb (stand b) (stand x) (let one : stand b < stand a = leb-false (stand a) (stand b) p in let two : stand a < stand x = ltb-true (stand a) (stand x) q in omega (arith, one, two))
late_opens HighUp true a b x p q =
    let stand : List Card → ℕ = card_stands razz_order in
    lt-ltb (stand x) (stand b) (let one : stand a < stand b = leb-false (stand b) (stand a) p in let two : stand x < stand a = ltb-true (stand x) (stand a) q in omega (arith, one, two))
late_opens LowUp false a b x p q =
    let heights : List Card → List ℕ = ranks_of high_ace in
    let ca = up_high_class a in
    let cb = up_high_class b in
    worse_trans cb ca (up_high_class x) (not (is_as_high (heights a) (heights b))) (is_lower (heights x) (heights a)) (is_lower (heights x) (heights b)) (λ l m. high_late (heights a) (heights b) (heights x) (not-true (is_as_high (heights a) (heights b)) l) m)
    (turned ca cb (cb == ca) (ca == cb) (is_as_high (heights a) (heights b)) (λ same. eq-eqb cb ca (sym same)) (eq-eqb ca cb) p) q
late_opens HighUp false a b x p q =
    let heights : List Card → List ℕ = ranks_of low_ace in
    let ca = low_class a in
    let cb = low_class b in
    worse_trans cb ca (low_class x) (not (is_as_low (heights a) (heights b))) (is_lower (heights a) (heights x)) (is_lower (heights b) (heights x)) (λ l m. low_late (heights a) (heights b) (heights x) (not-true (is_as_low (heights a) (heights b)) l) m)
    (turned ca cb (cb == ca) (ca == cb) (is_as_low (heights a) (heights b)) (λ same. eq-eqb cb ca (sym same)) (eq-eqb ca cb) p) q
late_opens Blinds first a b x p q = absurd (true≢false (sym q))
