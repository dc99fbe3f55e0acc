-- The heights of the cards are digits, written one after another over all heights.
use Rattle.std.proofs.Common.{◌≡◌, ℕ, ◌+◌, ◌*◌, ◌^◌, ◌<◌, ◌≤◌, ◌==◌, Bool, true, false, cond, List, [], ◌∷◌, ◌++◌, length, take, drop, get_or, filter, refl, sym, ◌∙◌, ap, arith, take-append-drop, append-nil, eq-eqb, length-append, append_assoc}
use Rattle.std.proofs.lemmas.Bool.{ne_eqb}
use Rattle.std.proofs.lemmas.List.{take_more}
use Rattle.std.proofs.lemmas.List.Elements.{filter_more, filter-append}
use Rattle.card_set.specs.declared.card.Card.{Card}
use Rattle.card_set.specs.declared.card.Rank.{Rank}
use Rattle.card_set.specs.Ranks.{falling_heights, times, occurring, ranks_of}
use Rattle.hand_order.specs.Digits.{with_digits}
use Rattle.hand_order.specs.Height.{height_with}
use Rattle.hand_order.specs.declared.ranks.Ace.{Ace}
use Rattle.hand_order.specs.declared.ranks.Ace.TheVariants as aces
use Rattle.card_set.proofs.Counted.{IsHeight, IsHeight-high_ace, IsHeight-low_ace, ranks_of-le, length-ranks_of}
use Rattle.hand_order.proofs.Digits.{AreDigits, with_digits-append, with_digits-cons, with_digits-nil, with_digits-more, number_below}

pub IsHeight-with : (ace : Ace) → IsHeight (height_with ace)
IsHeight-with aces.High = IsHeight-high_ace
IsHeight-with aces.Low = IsHeight-low_ace

pub AreDigits-append : (xs ys : List ℕ) → AreDigits xs → AreDigits ys → AreDigits (xs ++ ys)
AreDigits-append [] ys first second = second
AreDigits-append (x ∷ xs) ys first second = (first.0, AreDigits-append xs ys first.1 second)

AreDigits-cond : (b : Bool) (x : ℕ) (xs : List ℕ) → x < 16 → AreDigits xs → AreDigits (cond b (x ∷ xs) xs)
AreDigits-cond true x xs small digits = (small, digits)
AreDigits-cond false x xs small digits = digits

AreDigits-filter : (p : ℕ → Bool) (xs : List ℕ) → AreDigits xs → AreDigits (filter p xs)
AreDigits-filter p [] digits = tt
AreDigits-filter p (x ∷ xs) digits = AreDigits-cond (p x) x (filter p xs) digits.0 (AreDigits-filter p xs digits.1)

heights_are_digits : AreDigits falling_heights
unfolding falling_heights
heights_are_digits = search (arith)

AreDigits-occurring : (height : Rank → ℕ) (cards : List Card) (n : ℕ) → AreDigits (occurring height cards n)
unfolding occurring
AreDigits-occurring height cards n = AreDigits-filter (λ h. times height cards h == n) falling_heights heights_are_digits

-- the heights of cards are digits
pub AreDigits-ranks_of : (height : Rank → ℕ) (cards : List Card) → AreDigits (ranks_of height cards)
unfolding ranks_of
AreDigits-ranks_of height cards =
    AreDigits-append (occurring height cards 4) (occurring height cards 3 ++ (occurring height cards 2 ++ occurring height cards 1)) (AreDigits-occurring height cards 4)
    (AreDigits-append (occurring height cards 3) (occurring height cards 2 ++ occurring height cards 1) (AreDigits-occurring height cards 3)
    (AreDigits-append (occurring height cards 2) (occurring height cards 1) (AreDigits-occurring height cards 2) (AreDigits-occurring height cards 1)))

-- the heights, among the first ones, that this number of cards have
abbrev pub occurring_first : (Rank → ℕ) → List Card → ℕ → ℕ → List ℕ
occurring_first height cards n i = filter (λ h. times height cards h == n) (take i falling_heights)

pub length-falling_heights : length falling_heights ≡ 14
unfolding falling_heights
length-falling_heights = refl

-- one more height, which this number of cards have
pub first_yes : (height : Rank → ℕ) (cards : List Card) (n i h : ℕ) → i < 14 → h ≡ get_or falling_heights i 0 → times height cards h ≡ n → occurring_first height cards n (i + 1) ≡ occurring_first height cards n i ++ h ∷ []
first_yes height cards n i h within is has =
    let test : (times height cards (get_or falling_heights i 0) == n) ≡ true = ap (λ (k : ℕ). times height cards k == n) (sym is) ∙ eq-eqb (times height cards h) n has in
    filter_more (λ k. times height cards k == n) falling_heights i 0 (omega (arith, length-falling_heights))
    ∙ ap (λ (b : Bool). occurring_first height cards n i ++ cond b (get_or falling_heights i 0 ∷ []) []) test
    ∙ ap (λ (k : ℕ). occurring_first height cards n i ++ k ∷ []) (sym is)

-- one more height, which other numbers of cards have
pub first_no : (height : Rank → ℕ) (cards : List Card) (n i h : ℕ) → i < 14 → h ≡ get_or falling_heights i 0 → (times height cards h ≡ n → ⊥) → occurring_first height cards n (i + 1) ≡ occurring_first height cards n i
first_no height cards n i h within is has_not =
    let test : (times height cards (get_or falling_heights i 0) == n) ≡ false = ap (λ (k : ℕ). times height cards k == n) (sym is) ∙ ne_eqb (times height cards h) n has_not in
    filter_more (λ k. times height cards k == n) falling_heights i 0 (omega (arith, length-falling_heights))
    ∙ ap (λ (b : Bool). occurring_first height cards n i ++ cond b (get_or falling_heights i 0 ∷ []) []) test
    ∙ append-nil (occurring_first height cards n i)

-- there are at most as many first heights as heights
pub first_le : (height : Rank → ℕ) (cards : List Card) (n i : ℕ) → length (occurring_first height cards n i) ≤ length (occurring height cards n)
unfolding occurring
first_le height cards n i =
    let p = λ (h : ℕ). times height cards h == n in
    let split = ap (length {A = ℕ}) (ap (filter p) (sym (take-append-drop i falling_heights)) ∙ filter-append p (take i falling_heights) (drop i falling_heights)) in
    omega (arith, split, length-append (filter p (take i falling_heights)) (filter p (drop i falling_heights)))

pub first_all : (height : Rank → ℕ) (cards : List Card) (n i : ℕ) → i ≡ 14 → occurring_first height cards n i ≡ occurring height cards n
unfolding occurring falling_heights
first_all height cards n i all = ap (λ (k : ℕ). occurring_first height cards n k) all

-- the number of the ranks is below the sixth place
pub ranks_below : (ace : Ace) (cards : List Card) → length cards ≤ 5 → with_digits 0 (ranks_of (height_with ace) cards) < 16 ^ 5
ranks_below ace cards few = number_below (ranks_of (height_with ace) cards) (omega (arith, ranks_of-le (height_with ace) (IsHeight-with ace) cards)) (AreDigits-ranks_of (height_with ace) cards)

-- one more digit
pub digit_more : (digits : List ℕ) (i : ℕ) → i < length digits → with_digits 0 (take (i + 1) digits) ≡ with_digits 0 (take i digits) * 16 + get_or digits i 0
digit_more digits i within =
    ap (with_digits 0) (take_more digits i 0 within)
    ∙ with_digits-append 0 (take i digits) (get_or digits i 0 ∷ [])
    ∙ with_digits-cons (with_digits 0 (take i digits)) (get_or digits i 0) []
    ∙ with_digits-nil (with_digits 0 (take i digits) * 16 + get_or digits i 0)

-- the first digits make a number that is at most that of all
pub digits_le : (digits : List ℕ) (i : ℕ) → with_digits 0 (take i digits) ≤ with_digits 0 digits
digits_le digits i =
    omega (arith, ap (with_digits 0) (sym (take-append-drop i digits)), with_digits-append 0 (take i digits) (drop i digits), with_digits-more (with_digits 0 (take i digits)) (drop i digits))

-- there are at most as many ranks as cards
pub few_ranks : (ace : Ace) (cards : List Card) → length (occurring (height_with ace) cards 4) + length (occurring (height_with ace) cards 3) + length (occurring (height_with ace) cards 2) + length (occurring (height_with ace) cards 1) ≤ length cards
few_ranks ace cards = omega (arith, length-ranks_of (height_with ace) cards, ranks_of-le (height_with ace) (IsHeight-with ace) cards)

-- the ranks, one after another
pub all_grown : (height : Rank → ℕ) (cards : List Card) (none four three two one : List ℕ) → none ≡ [] → four ≡ none ++ occurring height cards 4 → three ≡ four ++ occurring height cards 3 → two ≡ three ++ occurring height cards 2 → one ≡ two ++ occurring height cards 1 → one ≡ ranks_of height cards
unfolding ranks_of
all_grown height cards none four three two one is_none is_four is_three is_two is_one =
    is_one
    ∙ ap (λ (l : List ℕ). l ++ occurring height cards 1) (is_two ∙ ap (λ (l : List ℕ). l ++ occurring height cards 2) (is_three ∙ ap (λ (l : List ℕ). l ++ occurring height cards 3) (is_four ∙ ap (λ (l : List ℕ). l ++ occurring height cards 4) is_none)))
    ∙ append_assoc (occurring height cards 4 ++ occurring height cards 3) (occurring height cards 2) (occurring height cards 1)
    ∙ append_assoc (occurring height cards 4) (occurring height cards 3) (occurring height cards 2 ++ occurring height cards 1)
