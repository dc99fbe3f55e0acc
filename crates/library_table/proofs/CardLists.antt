-- A list of different cards with one more card.
use Rattle.std.proofs.Common.{◌≡◌, ◌≢◌, ◌||◌, ◌⊎◌, ◌++◌, Bool, true, false, List, [], ◌∷◌, inl, inr, refl, sym, ◌∙◌, ap, subst}
use Rattle.card_set.specs.declared.card.Card.{Card}
use Rattle.card_set.specs.declared.set.CardSet.{CardSet}
use Rattle.card_set.specs.CardSet.{is_in, is_one_of, IsListing}
use Rattle.card_set.specs.Deck.{is_same_card}
use Rattle.card_set.specs.Different.{Lacks, AllDifferent}
use Rattle.card_set.proofs.DeckLaws.{is_same_card-self, is_same_card-true}
use Rattle.card_set.proofs.SetLaws.{is_one_of-more}
use Rattle.card_set.proofs.Tests.{passes_or_not, true_false}

lacks_more : (other card : Card) (cards : List Card) → Lacks other cards → other ≢ card → Lacks other (cards ++ card ∷ [])
lacks_more other card [] lacks apart = (apart, tt)
lacks_more other card (first ∷ rest) lacks apart = (lacks.0, lacks_more other card rest lacks.1 apart)

different_more : (card : Card) (cards : List Card) → AllDifferent cards → is_one_of card cards ≡ false → AllDifferent (cards ++ card ∷ [])
different_more card [] different absent = (tt, tt)
different_more card (first ∷ rest) different absent = by_tests (is_same_card first card) refl (is_one_of card rest) refl absent (different_more card rest different.1)
  where
    by_tests : (a : Bool) → is_same_card first card ≡ a → (b : Bool) → is_one_of card rest ≡ b → (a || b) ≡ false → (is_one_of card rest ≡ false → AllDifferent (rest ++ card ∷ [])) → AllDifferent ((first ∷ rest) ++ card ∷ [])
    by_tests true is b is_b none others = absurd (cc)
    by_tests false is b is_b none others =
        let apart : first ≢ card = λ same. let on = ap (is_same_card first) (sym same) ∙ is_same_card-self first in true_false (sym on ∙ is) in
        (lacks_more first card rest different.0 apart, others (is_b ∙ none))

-- one more card that was not seen before
pub listing_more : (before after : CardSet) (cards next : List Card) (card : Card) → IsListing before cards → is_in before card ≡ false → is_in after card ≡ true → ((other : Card) → other ≢ card → is_in after other ≡ is_in before other) → next ≡ cards ++ card ∷ [] → IsListing after next
listing_more before after cards next card lists absent inside others is =
    subst (IsListing after) (sym is) (record {
      different = different_more card cards lists.different (sym (lists.same card) ∙ absent);
      same = λ other. by_test other (passes_or_not (is_same_card card other)) ∙ sym (is_one_of-more other card cards);
    })
  where
    or_true : (b : Bool) → (b || true) ≡ true
    or_true true = refl
    or_true false = refl

    or_false : (b : Bool) → (b || false) ≡ b
    or_false true = refl
    or_false false = refl

    by_test : (other : Card) → (is_same_card card other ≡ true) ⊎ (is_same_card card other ≡ false) → is_in after other ≡ (is_one_of other cards || is_same_card card other)
    by_test other (inl same) =
        ap (is_in after) (sym (is_same_card-true card other same)) ∙ inside ∙ sym (ap (λ (b : Bool). is_one_of other cards || b) same ∙ or_true (is_one_of other cards))
    by_test other (inr apart) =
        others other (λ same. true_false (sym (ap (is_same_card card) same ∙ is_same_card-self card) ∙ apart))
        ∙ lists.same other
        ∙ sym (ap (λ (b : Bool). is_one_of other cards || b) apart ∙ or_false (is_one_of other cards))

-- a set without cards has only the empty list
pub listing_none : (set : CardSet) (cards : List Card) → cards ≡ [] → ((card : Card) → is_in set card ≡ false) → IsListing set cards
listing_none set cards none empty = subst (IsListing set) (sym none) (record { different = tt; same = empty })
