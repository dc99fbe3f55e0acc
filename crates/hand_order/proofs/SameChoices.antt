-- Two lists of the same different cards have the same choices, possibly in another order of their
-- cards.
use Rattle.std.proofs.Common.{◌≡◌, ℕ, zero, suc, ◌<◌, ◌&&◌, ◌||◌, Bool, true, false, cond, List, [], ◌∷◌, ◌++◌, map, length, filter, Option, Some, None, inl, inr, refl, sym, ◌∙◌, ap, subst, arith}
use Rattle.std.proofs.lemmas.Bool.{or_cases}
use Rattle.card_set.specs.declared.card.Card.{Card}
use Rattle.card_set.specs.CardSet.{AreSameCards, is_one_of}
use Rattle.card_set.specs.Deck.{is_same_card}
use Rattle.card_set.specs.Different.{Every, AllDifferent}
use Rattle.card_set.proofs.DeckLaws.{is_same_card-self, is_same_card-true}
use Rattle.card_set.proofs.Listing.{is_one_of-filter, kept_different, length-same}
use Rattle.hand_order.specs.Choices.{choices, IsAmong, AreAlike}
use Rattle.hand_order.specs.Points.{greatest}
use Rattle.hand_order.proofs.Greatest.{IsAmong-left, IsAmong-right, IsAmong-map, Says, says_greatest}
use Rattle.hand_order.proofs.Held.{every_chosen, held_chosen}

-- with the first card
pub with_first : (n : ℕ) (card : Card) (rest choice : List Card) → IsAmong choice (choices n rest) → IsAmong (card ∷ choice) (choices (suc n) (card ∷ rest))
unfolding choices
with_first n card rest choice among = IsAmong-left (card ∷ choice) (map (λ chosen. card ∷ chosen) (choices n rest)) (choices (suc n) rest) (IsAmong-map (λ chosen. card ∷ chosen) choice (choices n rest) among)

-- and without it
pub without_first : (n : ℕ) (card : Card) (rest choice : List Card) → IsAmong choice (choices n rest) → IsAmong choice (choices n (card ∷ rest))
unfolding choices
without_first zero card rest choice among = among
without_first (suc n) card rest choice among = IsAmong-right choice (map (λ chosen. card ∷ chosen) (choices n rest)) (choices (suc n) rest) among

pub none_chosen : (cards : List Card) → IsAmong [] (choices 0 cards)
unfolding choices
none_chosen cards = inl refl

-- the cards that pass are a choice
pub filter_among : (p : Card → Bool) (cards : List Card) → IsAmong (filter p cards) (choices (length (filter p cards)) cards)
filter_among p [] = none_chosen []
filter_among p (card ∷ rest) = by_test (p card) (filter_among p rest)
  where
    by_test : (b : Bool) → IsAmong (filter p rest) (choices (length (filter p rest)) rest) → IsAmong (cond b (card ∷ filter p rest) (filter p rest)) (choices (length (cond b (card ∷ filter p rest) (filter p rest))) (card ∷ rest))
    by_test true among = with_first (length (filter p rest)) card rest (filter p rest) among
    by_test false among = without_first (length (filter p rest)) card rest (filter p rest) among

every_more : (card : Card) (cards rest : List Card) → Every (λ other. is_one_of other rest ≡ true) cards → Every (λ other. is_one_of other (card ∷ rest) ≡ true) cards
every_more card [] rest every = tt
every_more card (first ∷ cards) rest every = (or_second (is_same_card card first) (is_one_of first rest) every.0, every_more card cards rest every.1)
  where
    or_second : (a b : Bool) → b ≡ true → (a || b) ≡ true
    or_second true b is = refl
    or_second false b is = is

pub every_one_of : (cards : List Card) → Every (λ card. is_one_of card cards ≡ true) cards
every_one_of [] = tt
every_one_of (card ∷ rest) = (ap (λ (b : Bool). b || is_one_of card rest) (is_same_card-self card), every_more card rest rest (every_one_of rest))

pub one_of_every : (P : Card → Type 0) (card : Card) (cards : List Card) → Every P cards → is_one_of card cards ≡ true → P card
one_of_every P card [] every is = absurd (cc)
one_of_every P card (other ∷ rest) every is =
    elim (or_cases (is_same_card other card) (is_one_of card rest) is) [
      | inl same ↦ subst P (is_same_card-true other card same) every.0
      | inr later ↦ one_of_every P card rest every.1 later
    ]

-- a card of a choice is among the cards
pub one_of_chosen : (n : ℕ) (cards chosen : List Card) (card : Card) → IsAmong chosen (choices n cards) → is_one_of card chosen ≡ true → is_one_of card cards ≡ true
one_of_chosen n cards chosen card among is =
    one_of_every (λ other. is_one_of other cards ≡ true) card chosen (every_chosen (λ other. is_one_of other cards ≡ true) n cards chosen among (every_one_of cards)) is

-- a choice with the same cards
pub record IsMatched (chosen : List Card) (n : ℕ) (cards : List Card) : Type 0 where
  pub choice : List Card
  pub among : IsAmong choice (choices n cards)
  pub same : AreSameCards chosen choice

pub matched : (n : ℕ) (a b chosen : List Card) → AllDifferent a → AllDifferent b → AreSameCards a b → IsAmong chosen (choices n a) → IsMatched chosen n b
matched n a b chosen different_a different_b same among =
    let is = λ (card : Card). is_one_of-filter (λ other. is_one_of other chosen) card b in
    let alike : AreSameCards chosen (filter (λ other. is_one_of other chosen) b) = λ card. by_test card (is_one_of card chosen) refl ∙ sym (is card) in
    let held = held_chosen n a chosen different_a among in
    let long = length-same chosen (filter (λ other. is_one_of other chosen) b) held.1 (kept_different (λ other. is_one_of other chosen) b different_b) alike in
    record {
      choice = filter (λ other. is_one_of other chosen) b;
      among = subst (λ (k : ℕ). IsAmong (filter (λ other. is_one_of other chosen) b) (choices k b)) (sym long ∙ held.0) (filter_among (λ other. is_one_of other chosen) b);
      same = alike;
    }
  where
    and_false : (t : Bool) → (t && false) ≡ false
    and_false true = refl
    and_false false = refl

    by_test : (card : Card) (t : Bool) → is_one_of card chosen ≡ t → is_one_of card chosen ≡ (is_one_of card b && is_one_of card chosen)
    by_test card true test =
        let there = sym (same card) ∙ one_of_chosen n a chosen card among test in
        sym (ap (λ (t : Bool). t && is_one_of card chosen) there)
    by_test card false test = test ∙ sym (and_false (is_one_of card b)) ∙ sym (ap (λ (t : Bool). is_one_of card b && t) test)

-- the greatest points of the choices are the same in each order of the cards
pub greatest-same : (points : List Card → Option ℕ) (n : ℕ) (a b : List Card) → AllDifferent a → AllDifferent b → AreSameCards a b → AreAlike points n → greatest points (choices n a) ≡ greatest points (choices n b)
greatest-same points n a b different_a different_b same alike =
    by_says (greatest points (choices n a)) (greatest points (choices n b)) (says_greatest points (choices n a)) (says_greatest points (choices n b))
  where
    across : (x y : List Card) → AllDifferent x → AllDifferent y → AreSameCards x y → (choice : List Card) (most : ℕ) → IsAmong choice (choices n x) → points choice ≡ Some most → (other : List Card) × IsAmong other (choices n y) × (points other ≡ Some most)
    across x y different_x different_y alike_cards choice most among pointed =
        let found = matched n x y choice different_x different_y alike_cards among in
        (found.choice, found.among, sym (alike choice found.choice (held_chosen n x choice different_x among) (held_chosen n y found.choice different_y found.among) found.same) ∙ pointed)

    by_says : (one other : Option ℕ) → Says points (choices n a) one → Says points (choices n b) other → one ≡ other
    by_says None None says_a says_b = refl
    by_says None (Some most) says_a says_b =
        let found = across b a different_b different_a (λ card. sym (same card)) says_b.choice most says_b.among says_b.pointed in
        let none = says_a found.0 found.1 in
        let pointed = found.2 in
        absurd (cc)
    by_says (Some most) None says_a says_b =
        let found = across a b different_a different_b same says_a.choice most says_a.among says_a.pointed in
        let none = says_b found.0 found.1 in
        let pointed = found.2 in
        absurd (cc)
    by_says (Some one) (Some other) says_a says_b =
        let up = across a b different_a different_b same says_a.choice one says_a.among says_a.pointed in
        let down = across b a different_b different_a (λ card. sym (same card)) says_b.choice other says_b.among says_b.pointed in
        let le = says_b.most up.0 one up.1 up.2 in
        let ge = says_a.most down.0 other down.1 down.2 in
        ap (λ (m : ℕ). Some m) (omega arith)

-- there is no choice from too few cards
pub too_few : (n : ℕ) (cards : List Card) → length cards < n → choices n cards ≡ []
unfolding choices
too_few zero cards few = absurd (omega arith)
too_few (suc n) [] few = refl
too_few (suc n) (card ∷ rest) few =
    ap (λ (l : List (List Card)). map (λ chosen. card ∷ chosen) l ++ choices (suc n) rest) (too_few n rest (omega arith)) ∙ too_few (suc n) rest (omega arith)

-- and only one from as many as are needed
pub all_chosen : (cards : List Card) → choices (length cards) cards ≡ cards ∷ []
unfolding choices
all_chosen [] = refl
all_chosen (card ∷ rest) =
    ap (λ (l : List (List Card)). map (λ chosen. card ∷ chosen) l ++ choices (suc (length rest)) rest) (all_chosen rest)
    ∙ ap (λ (l : List (List Card)). (card ∷ rest) ∷ l) (too_few (suc (length rest)) rest (omega arith))
