-- A set of cards and the lists of its cards.
use Rattle.std.proofs.Common.{◌≡◌, ℕ, List, [], ◌++◌, ◌≤◌, length, Option, inl, inr, arith, sym, ◌∙◌, ap, subst}
use Rattle.card_set.specs.declared.card.Card.{Card}
use Rattle.card_set.specs.declared.set.CardSet.{CardSet}
use Rattle.card_set.specs.CardSet.{count_of, is_in, is_one_of, listed, IsListing}
use Rattle.card_set.specs.Different.{AllDifferent}
use Rattle.card_set.proofs.Listing.{count_of-listing, listed_listing, same_listings}
use Rattle.hand_order.specs.Choices.{choices, AreAlike, AreHeld, CanChoose, IsAmong}
use Rattle.hand_order.specs.Points.{greatest}
use Rattle.hand_order.proofs.Greatest.{greatest-agree, greatest-one}
use Rattle.hand_order.proofs.Held.{held_chosen}
use Rattle.hand_order.proofs.SameChoices.{all_chosen, greatest-same}

-- the cards of a row are listed by its set
pub listing_of : (set : CardSet) (seen cards : List Card) → seen ≡ cards → AllDifferent cards → ((card : Card) → is_in set card ≡ is_one_of card seen) → IsListing set cards
listing_of set seen cards is different same = subst (IsListing set) is (record { different = subst AllDifferent (sym is) different; same = same })

-- and there are as many
pub count_of-row : (set : CardSet) (seen cards : List Card) → seen ≡ cards → AllDifferent cards → ((card : Card) → is_in set card ≡ is_one_of card seen) → count_of set ≡ length cards
count_of-row set seen cards is different same = count_of-listing set cards (listing_of set seen cards is different same)

-- all cards of a hand are its only choice
pub only_choice : (points : List Card → Option ℕ) (held : ℕ) (cards : List Card) → length cards ≡ held → greatest points (choices held cards) ≡ points cards
only_choice points held cards long =
    ap (λ (n : ℕ). greatest points (choices n cards)) (sym long) ∙ ap (greatest points) (all_chosen cards) ∙ greatest-one points cards

-- choices after an empty start are accepted
pub accepted_listed : (accepts : List Card → Type 0) (held : ℕ) (start seen more : List Card) (set : CardSet) → start ≡ [] → seen ≡ listed set → ((hand : List Card) → AreHeld held hand → accepts hand) → IsAmong more (choices held seen) → accepts (start ++ more)
accepted_listed accepts held start seen more set none is accepted among =
    let different = subst AllDifferent (sym is) (listed_listing set).different in
    subst accepts (ap (λ (l : List Card). l ++ more) (sym none)) (accepted more (held_chosen held seen more different among))

-- the choices of the cards in the order of the deck are as good as those of each list of the set
pub greatest_listed : (points : List Card → Option ℕ) (held : ℕ) (start seen listing : List Card) (set : CardSet) → start ≡ [] → seen ≡ listed set → AreAlike points held → IsListing set listing → greatest (λ more. points (start ++ more)) (choices held seen) ≡ greatest points (choices held listing)
greatest_listed points held start seen listing set none is alike lists =
    greatest-agree (λ more. points (start ++ more)) points (choices held seen) (λ more. ap (λ (l : List Card). points (l ++ more)) none)
    ∙ ap (λ (l : List Card). greatest points (choices held l)) is
    ∙ greatest-same points held (listed set) listing (listed_listing set).different lists.different (same_listings set (listed set) listing (listed_listing set) lists) alike

-- a set to choose from has at most seven cards
pub few_to_choose : (held count : ℕ) → held ≤ 7 → CanChoose held count → count ≤ 7
few_to_choose held count few can = elim can [ inl five ↦ five.2 | inr all ↦ omega arith ]

-- and at least as many as a hand
pub enough_to_choose : (held count : ℕ) → CanChoose held count → held ≤ count
enough_to_choose held count can = elim can [ inl five ↦ omega (arith, five.0, five.1) | inr all ↦ omega arith ]
