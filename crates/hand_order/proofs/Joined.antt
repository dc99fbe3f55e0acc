-- A set with one more card is listed with the card at the end.
use Rattle.std.proofs.Common.{◌≡◌, ◌≢◌, ◌+◌, ◌-◌, ◌<◌, zero, suc, ◌||◌, Bool, true, false, List, [], ◌∷◌, ◌++◌, length-append, ◌⊎◌, inl, inr, refl, sym, ◌∙◌, ap, subst, arith, ℕ, map, drop, Option, None, length-take, length}
use Rattle.std.proofs.lemmas.List.{length-drop}
use Rattle.card_set.specs.declared.card.Card.{Card}
use Rattle.card_set.specs.declared.set.CardSet.{CardSet}
use Rattle.card_set.specs.CardSet.{IsListing, count_of, is_in, is_one_of, listed}
use Rattle.card_set.specs.Deck.{is_same_card}
use Rattle.card_set.specs.Different.{AllDifferent, Every, Lacks}
use Rattle.card_set.proofs.DeckLaws.{is_same_card-self, is_same_card-true}
use Rattle.card_set.proofs.Listing.{count_of-listing, lacks_one_of, listed_listing}
use Rattle.card_set.proofs.SetLaws.{is_one_of-more}
use Rattle.hand_order.proofs.Greatest.{greatest-none}
use Rattle.hand_order.specs.Points.{greatest}
use Rattle.hand_order.specs.Choices.{choices}
use Rattle.card_set.specs.Row.{cards_of}
use Rattle.card_set.specs.declared.row.CardRow.{CardRow}
use Rattle.hand_order.proofs.Held.{different_both}
use Rattle.card_set.proofs.Tests.{or_false, or_right, passes_or_not, true_false}

-- a set takes one more card
pub record TakesCard (before after : CardSet) (card : Card) : Type 0 where
  pub absent : is_in before card ≡ false
  pub inside : is_in after card ≡ true
  pub others : (other : Card) → other ≢ card → is_in after other ≡ is_in before other

apart_from : (card : Card) (cards : List Card) → is_one_of card cards ≡ false → Every (λ other. Lacks other (card ∷ [])) cards
apart_from card [] none = tt
apart_from card (first ∷ cards) none =
    elim (passes_or_not (is_same_card first card)) [
      | inl same ↦ absurd (true_false (sym (ap (λ (b : Bool). b || is_one_of card cards) same) ∙ none))
      | inr apart ↦ (
        (λ is. true_false (sym (ap (λ (c : Card). is_same_card c card) is ∙ is_same_card-self card) ∙ apart), tt),
        apart_from card cards (sym (ap (λ (b : Bool). b || is_one_of card cards) apart) ∙ none),
      )
    ]

-- a list of the set is a list of the other one, with the card at the end
pub listing_more : (before after : CardSet) (card : Card) (listing : List Card) → TakesCard before after card → IsListing before listing → IsListing after (listing ++ card ∷ [])
listing_more before after card listing takes lists = record {
  different = different_both listing (card ∷ []) lists.different (tt, tt) (apart_from card listing (sym (lists.same card) ∙ takes.absent));
  same = λ other. by_test other (passes_or_not (is_same_card card other)) ∙ sym (is_one_of-more other card listing);
}
  where
    by_test : (other : Card) → (is_same_card card other ≡ true) ⊎ (is_same_card card other ≡ false) → is_in after other ≡ (is_one_of other listing || is_same_card card other)
    by_test other (inl same) = ap (is_in after) (sym (is_same_card-true card other same)) ∙ takes.inside ∙ sym (or_right (is_one_of other listing) (is_same_card card other) same)
    by_test other (inr apart) =
        takes.others other (λ same. true_false (sym (ap (is_same_card card) same ∙ is_same_card-self card) ∙ apart))
        ∙ lists.same other
        ∙ sym (ap (λ (b : Bool). is_one_of other listing || b) apart ∙ or_false (is_one_of other listing))

-- and it has one more card
pub count_more : (before after : CardSet) (card : Card) → TakesCard before after card → count_of after ≡ count_of before + 1
count_more before after card takes =
    omega (arith, count_of-listing after (listed before ++ card ∷ []) (listing_more before after card (listed before) takes (listed_listing before)), length-append (listed before) (card ∷ []))

-- cards are apart from a set
abbrev pub AreApart : CardSet → List Card → Type 0
AreApart set cards = (card : Card) → is_one_of card cards ≡ true → is_in set card ≡ false

-- the first of the cards that are apart from a set is taken by it
pub takes_first : (before after : CardSet) (card : Card) (cards rest : List Card) → cards ≡ card ∷ rest → AreApart before cards → is_in after card ≡ true → ((other : Card) → other ≢ card → is_in after other ≡ is_in before other) → TakesCard before after card
takes_first before after card cards rest is apart inside others = record {
  absent = apart card (ap (is_one_of card) is ∙ ap (λ (b : Bool). b || is_one_of card rest) (is_same_card-self card));
  inside = inside;
  others = others;
}

-- those after it are apart from the set
pub apart_rest : (set : CardSet) (card : Card) (cards rest : List Card) → cards ≡ card ∷ rest → AreApart set cards → AreApart set rest
apart_rest set card cards rest is apart other among = apart other (ap (is_one_of other) is ∙ or_right (is_same_card card other) (is_one_of other rest) among)

-- and from the set that has it
pub apart_taken : (before after : CardSet) (card : Card) (cards rest : List Card) → cards ≡ card ∷ rest → AllDifferent cards → AreApart before cards → TakesCard before after card → AreApart after rest
apart_taken before after card cards rest is different apart takes other among =
    let all = subst AllDifferent is different in
    takes.others other (λ same. true_false (sym among ∙ ap (λ (c : Card). is_one_of c rest) same ∙ lacks_one_of card rest all.0)) ∙ apart_rest before card cards rest is apart other among

-- cards that are different stay so without the first
pub different_rest : (card : Card) (cards rest : List Card) → cards ≡ card ∷ rest → AllDifferent cards → AllDifferent rest
different_rest card cards rest is different = (subst AllDifferent is different).1

last_lacks : (c : Card) (cards others : List Card) → Lacks c (cards ++ others) → Lacks c others
last_lacks c [] others lacks = lacks
last_lacks c (x ∷ cards) others lacks = last_lacks c cards others lacks.1

absent_first : (card : Card) (cards others : List Card) → AllDifferent (cards ++ others) → is_one_of card others ≡ true → is_one_of card cards ≡ false
absent_first card [] others different among = refl
absent_first card (c ∷ cards) others different among =
    elim (passes_or_not (is_same_card c card)) [
      | inl here ↦ absurd (true_false (sym among ∙ ap (λ (x : Card). is_one_of x others) (sym (is_same_card-true c card here)) ∙ lacks_one_of c others (last_lacks c cards others different.0)))
      | inr apart ↦ ap (λ (b : Bool). b || is_one_of card cards) apart ∙ absent_first card cards others different.1 among
    ]

-- cards that are different from others are apart from a set of the others
pub apart_of : (set : CardSet) (cards others : List Card) → AllDifferent (cards ++ others) → ((card : Card) → is_in set card ≡ is_one_of card cards) → AreApart set others
apart_of set cards others different same card among = same card ∙ absent_first card cards others different among

-- there is no choice from too few cards
choices-few : (need : ℕ) (cards : List Card) → length cards < need → choices need cards ≡ []
unfolding choices
choices-few zero cards few = absurd (omega arith)
choices-few (suc n) [] few = refl
choices-few (suc n) (card ∷ rest) few =
    ap (λ (l : List (List Card)). map (λ chosen. card ∷ chosen) l ++ choices (suc n) rest) (choices-few n rest (omega arith))
    ∙ choices-few (suc n) rest (omega arith)

-- nor from the last cards of a row
pub greatest-few : (points : List Card → Option ℕ) (row : CardRow) (at need : ℕ) → row.len - at < need → greatest points (choices need (drop at (cards_of row))) ≡ None
greatest-few points row at need few =
    ap (greatest points) (choices-few need (drop at (cards_of row)) (omega (arith, few, length-drop at (cards_of row), length-take row.len row.cards, row.entries, row.fits)))
    ∙ greatest-none points
