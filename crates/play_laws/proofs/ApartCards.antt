-- Places that do not share a card have different cards: the known ones are all different.
use Rattle.std.proofs.Common.{◌≡◌, ◌≢◌, ℕ, Bool, true, false, ◌||◌, ◌&&◌, not, inl, inr, Some, None, List, [], ◌∷◌, ◌++◌, map, filter, refl, sym, ap, subst, ◌∙◌, arith}
use Rattle.std.proofs.lemmas.List.{map-append}
use Rattle.card_set.specs.declared.card.Card.{Card}
use Rattle.card_set.specs.declared.card.Slot.{Slot}
use Rattle.card_set.specs.declared.card.Slot.TheVariants as slots
use Rattle.card_set.specs.Deck.{is_same_card}
use Rattle.card_set.specs.Different.{AllDifferent, Lacks}
use Rattle.card_set.specs.Known.{known_among}
use Rattle.card_set.proofs.DeckLaws.{is_same_card-self}
use Rattle.card_set.proofs.KnownCards.{known_append}
use Rattle.card_set.proofs.Options.{some_is_none}
use Rattle.card_set.proofs.Tests.{false_true}
use Rattle.play_event.specs.Laws.{IsAmong}
use Rattle.play_event.specs.Places.{Place, is_same_owner}
use Rattle.play_event.specs.Taken.{is_one_card}
use Rattle.play_event.proofs.ClashLaws.{among_append}
use Rattle.play_event.proofs.OwnerLaws.{is_same_owner-true}
use Rattle.play_laws.proofs.PlaceGroups.{AreRising, one_number, passed, rising_filter}

-- no two of the places have the same number
abbrev AreApart : List Place → Type 0
AreApart [] = Unit {0}
AreApart (first ∷ rest) = ((later : Place) → IsAmong rest later → first.number ≢ later.number) × AreApart rest

-- no two of the places have the same card
abbrev pub BearNoOneCard : List Place → Type 0
BearNoOneCard held = (a b : Place) → IsAmong held a → IsAmong held b → a.number ≢ b.number → is_one_card a.slot b.slot ≡ false

-- if neither of two places may repeat the other, neither has the other's card
pub unclashed : (x y one : Bool) → x ≡ false → y ≡ false → (not (x || y) && one) ≡ false → one ≡ false
unclashed false false one p q is = is
unclashed false true one p q is = false_true (sym q)
unclashed true y one p q is = false_true (sym p)

differ : (card other : Card) (mine its : Slot) → mine ≡ slots.Known card → its ≡ slots.Known other → is_one_card mine its ≡ false → card ≢ other
differ card other mine its is_mine is_its apart same =
    let both : is_same_card card other ≡ false = sym (ap (λ s. is_one_card s its) is_mine ∙ ap (is_one_card (slots.Known card)) is_its) ∙ apart in
    false_true (sym both ∙ (ap (is_same_card card) (sym same) ∙ is_same_card-self card))

lacks : (first : Place) (card : Card) (rest : List Place) → first.slot ≡ slots.Known card → ((later : Place) → IsAmong rest later → is_one_card first.slot later.slot ≡ false) → Lacks card (known_among (map (λ (p : Place). p.slot) rest))
lacks first card [] is apart = tt
lacks first card (place ∷ rest) is apart = by_slot place.slot refl (lacks first card rest is (λ later among. apart later (inr among)))
  where
    by_slot : (slot : Slot) → place.slot ≡ slot → Lacks card (known_among (map (λ (p : Place). p.slot) rest)) → Lacks card (known_among (slot ∷ map (λ (p : Place). p.slot) rest))
    by_slot slots.Unknown its later = later
    by_slot (slots.Known other) its later = (differ card other first.slot place.slot is its (apart place (inl refl)), later)

all_different : (held : List Place) → BearNoOneCard held → AreApart held → AllDifferent (known_among (map (λ (p : Place). p.slot) held))
all_different [] none apart = tt
all_different (first ∷ rest) none apart = by_slot first.slot refl (all_different rest (λ a b in_a in_b. none a b (inr in_a) (inr in_b)) apart.1)
  where
    by_slot : (slot : Slot) → first.slot ≡ slot → AllDifferent (known_among (map (λ (p : Place). p.slot) rest)) → AllDifferent (known_among (slot ∷ map (λ (p : Place). p.slot) rest))
    by_slot slots.Unknown is later = later
    by_slot (slots.Known card) is later = (lacks first card rest is (λ later among. none first later (inl refl) (inr among) (apart.0 later among)), later)

rising_apart : (held : List Place) → AreRising held → AreApart held
rising_apart [] up = tt
rising_apart (first ∷ rest) up = (λ later among same. omega (arith, same, up.0 later among), rising_apart rest up.1)

apart_append : (xs ys : List Place) → AreApart xs → AreApart ys → ((x y : Place) → IsAmong xs x → IsAmong ys y → x.number ≢ y.number) → AreApart (xs ++ ys)
apart_append [] ys apart_x apart_y cross = apart_y
apart_append (x ∷ xs) ys apart_x apart_y cross = (
  λ later among. elim (among_append xs ys later among) [ inl here ↦ apart_x.0 later here | inr there ↦ cross x later (inl refl) there ],
  apart_append xs ys apart_x.1 apart_y (λ a b in_a in_b. cross a b (inr in_a) in_b),
)

-- the known cards of a seat and of the board, by whatever tests of places, are all different
pub both_different : (placed : List Place) (mine its : Place → Bool) (seat : ℕ) → AreRising placed → BearNoOneCard (filter mine placed ++ filter its placed) → ((place : Place) → mine place ≡ true → is_same_owner place.owner (Some seat) ≡ true) → ((place : Place) → its place ≡ true → is_same_owner place.owner None ≡ true) → AllDifferent (known_among (map (λ (p : Place). p.slot) (filter mine placed)) ++ known_among (map (λ (p : Place). p.slot) (filter its placed)))
both_different placed mine its seat up none is_mine is_its =
    let slot : Place → Slot = λ p. p.slot in
    let own : List Place = filter mine placed in
    let board : List Place = filter its placed in
    subst AllDifferent (ap known_among (map-append slot own board) ∙ known_append (map slot own) (map slot board))
    (all_different (own ++ board) none
    (apart_append own board (rising_apart own (rising_filter mine placed up)) (rising_apart board (rising_filter its placed up))
    (λ x y in_x in_y same.
    let first = passed mine placed x in_x in
    let second = passed its placed y in_y in
    let one : x ≡ y = one_number placed x y up first.among second.among same in
    some_is_none (sym (is_same_owner-true x.owner (Some seat) (is_mine x first.passes)) ∙ (ap (λ (p : Place). p.owner) one ∙ is_same_owner-true y.owner None (is_its y second.passes))))))
