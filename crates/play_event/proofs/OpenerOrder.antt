-- Among some seats there is one before which no other acts.
use Rattle.std.proofs.Common.{◌≡◌, ℕ, ◌<◌, Bool, true, false, ◌&&◌, ◌||◌, ◌==◌, nat_lt, inl, inr, ◌⊎◌, List, [], ◌∷◌, refl, sym, ◌∙◌, arith}
use Rattle.std.proofs.lemmas.Bool.{true≢false, or_left, or_right, or_from, or_cases, and_parts, and_from, lt-ltb, ltb-true, le-ltb, eqb-true, eq-eqb, and_right}
use Rattle.card_set.specs.declared.card.Card.{Card}
use Rattle.card_set.specs.Deck.{deck_index}
use Rattle.card_set.specs.Ranks.{high_ace, low_ace, ranks_of}
use Rattle.card_set.specs.UpCards.{up_high_class, low_class}
use Rattle.play_event.specs.declared.limit.Opener.{Opener}
use Rattle.play_event.specs.declared.limit.Opener.TheVariants.{Blinds, LowUp, HighUp}
use Rattle.play_event.specs.Openers.{is_lower, is_opener_before, card_stands, razz_order}
use Rattle.card_set.proofs.Numbers.{less_trans}

-- lists of heights
lower_not : (xs : List ℕ) → is_lower xs xs ≡ false
lower_not [] = refl
lower_not (x ∷ xs) = or_from (nat_lt x x) ((x == x) && is_lower xs xs) (le-ltb x x (omega arith)) (and_right (x == x) (is_lower xs xs) (lower_not xs))

pub lower_step : (x y z : ℕ) (p q r : Bool) → (p ≡ true → q ≡ true → r ≡ true) → ((nat_lt x y ≡ true) ⊎ (((x == y) && p) ≡ true)) → ((nat_lt y z ≡ true) ⊎ (((y == z) && q) ≡ true)) → (nat_lt x z || ((x == z) && r)) ≡ true
lower_step x y z p q r trans (inl xy) (inl yz) = or_left (nat_lt x z) ((x == z) && r) (lt-ltb x z (let one : x < y = ltb-true x y xy in let two : y < z = ltb-true y z yz in omega (arith, one, two)))
lower_step x y z p q r trans (inl xy) (inr yz) = or_left (nat_lt x z) ((x == z) && r) (lt-ltb x z (let one : x < y = ltb-true x y xy in let two : y ≡ z = eqb-true y z (and_parts (y == z) q yz).0 in omega (arith, one, two)))
lower_step x y z p q r trans (inr xy) (inl yz) = or_left (nat_lt x z) ((x == z) && r) (lt-ltb x z (let one : x ≡ y = eqb-true x y (and_parts (x == y) p xy).0 in let two : y < z = ltb-true y z yz in omega (arith, one, two)))
lower_step x y z p q r trans (inr xy) (inr yz) =
    let one = and_parts (x == y) p xy in
    let two = and_parts (y == z) q yz in
    or_right (nat_lt x z) ((x == z) && r) (and_from (x == z) r (eq-eqb x z (eqb-true x y one.0 ∙ eqb-true y z two.0)) (trans one.1 two.1))

lower_trans : (a b c : List ℕ) → is_lower a b ≡ true → is_lower b c ≡ true → is_lower a c ≡ true
lower_trans [] b c p q = absurd (true≢false (sym p))
lower_trans (x ∷ xs) [] c p q = absurd (true≢false (sym p))
lower_trans (x ∷ xs) (y ∷ ys) [] p q = absurd (true≢false (sym q))
lower_trans (x ∷ xs) (y ∷ ys) (z ∷ zs) p q =
    lower_step x y z (is_lower xs ys) (is_lower ys zs) (is_lower xs zs) (lower_trans xs ys zs) (or_cases (nat_lt x y) ((x == y) && is_lower xs ys) p) (or_cases (nat_lt y z) ((y == z) && is_lower ys zs) q)

-- no seat acts before itself
pub opens_not : (opener : Opener) (first : Bool) (a : List Card) → is_opener_before opener first a a ≡ false
opens_not LowUp true a = le-ltb (card_stands deck_index a) (card_stands deck_index a) (omega arith)
opens_not HighUp true a = le-ltb (card_stands razz_order a) (card_stands razz_order a) (omega arith)
opens_not LowUp false a = or_from (nat_lt (up_high_class a) (up_high_class a)) ((up_high_class a == up_high_class a) && is_lower (ranks_of high_ace a) (ranks_of high_ace a)) (le-ltb (up_high_class a) (up_high_class a) (omega arith)) (and_right (up_high_class a == up_high_class a) (is_lower (ranks_of high_ace a) (ranks_of high_ace a)) (lower_not (ranks_of high_ace a)))
opens_not HighUp false a = or_from (nat_lt (low_class a) (low_class a)) ((low_class a == low_class a) && is_lower (ranks_of low_ace a) (ranks_of low_ace a)) (le-ltb (low_class a) (low_class a) (omega arith)) (and_right (low_class a == low_class a) (is_lower (ranks_of low_ace a) (ranks_of low_ace a)) (lower_not (ranks_of low_ace a)))
opens_not Blinds first a = refl

-- a class that is weaker, or the same class and heights that are
worse_step : (ca cb cc : ℕ) (l m n : Bool) → (l ≡ true → m ≡ true → n ≡ true) → ((nat_lt ca cb ≡ true) ⊎ (((cb == ca) && l) ≡ true)) → ((nat_lt cb cc ≡ true) ⊎ (((cc == cb) && m) ≡ true)) → (nat_lt ca cc || ((cc == ca) && n)) ≡ true
worse_step ca cb cc l m n trans (inl x) (inl y) = or_left (nat_lt ca cc) ((cc == ca) && n) (less_trans ca cb cc x y)
worse_step ca cb cc l m n trans (inl x) (inr y) = or_left (nat_lt ca cc) ((cc == ca) && n) (lt-ltb ca cc (let one : ca < cb = ltb-true ca cb x in let two : cc ≡ cb = eqb-true cc cb (and_parts (cc == cb) m y).0 in omega (arith, one, two)))
worse_step ca cb cc l m n trans (inr x) (inl y) = or_left (nat_lt ca cc) ((cc == ca) && n) (lt-ltb ca cc (let one : cb ≡ ca = eqb-true cb ca (and_parts (cb == ca) l x).0 in let two : cb < cc = ltb-true cb cc y in omega (arith, one, two)))
worse_step ca cb cc l m n trans (inr x) (inr y) =
    let one = and_parts (cb == ca) l x in
    let two = and_parts (cc == cb) m y in
    or_right (nat_lt ca cc) ((cc == ca) && n) (and_from (cc == ca) n (eq-eqb cc ca (eqb-true cc cb two.0 ∙ eqb-true cb ca one.0)) (trans one.1 two.1))

pub worse_trans : (ca cb cc : ℕ) (l m n : Bool) → (l ≡ true → m ≡ true → n ≡ true) → (nat_lt ca cb || ((cb == ca) && l)) ≡ true → (nat_lt cb cc || ((cc == cb) && m)) ≡ true → (nat_lt ca cc || ((cc == ca) && n)) ≡ true
worse_trans ca cb cc l m n trans p q = worse_step ca cb cc l m n trans (or_cases (nat_lt ca cb) ((cb == ca) && l) p) (or_cases (nat_lt cb cc) ((cc == cb) && m) q)

-- if one seat acts before a second and that before a third, the first acts before the third
pub opens_trans : (opener : Opener) (first : Bool) (a b c : List Card) → is_opener_before opener first a b ≡ true → is_opener_before opener first b c ≡ true → is_opener_before opener first a c ≡ true
opens_trans LowUp true a b c p q = less_trans (card_stands deck_index a) (card_stands deck_index b) (card_stands deck_index c) p q
opens_trans HighUp true a b c p q = less_trans (card_stands razz_order c) (card_stands razz_order b) (card_stands razz_order a) q p
opens_trans LowUp false a b c p q =
    let heights : List Card → List ℕ = ranks_of high_ace in
    worse_trans (up_high_class a) (up_high_class b) (up_high_class c) (is_lower (heights b) (heights a)) (is_lower (heights c) (heights b)) (is_lower (heights c) (heights a)) (λ x y. lower_trans (heights c) (heights b) (heights a) y x) p q
opens_trans HighUp false a b c p q =
    let heights : List Card → List ℕ = ranks_of low_ace in
    worse_trans (low_class a) (low_class b) (low_class c) (is_lower (heights a) (heights b)) (is_lower (heights b) (heights c)) (is_lower (heights a) (heights c)) (lower_trans (heights a) (heights b) (heights c)) p q
opens_trans Blinds first a b c p q = absurd (true≢false (sym p))
