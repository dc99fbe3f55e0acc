-- Cards that are not on the table, no two of them the same, may be dealt.
use Rattle.std.proofs.Common.{◌≡◌, ℕ, ◌+◌, ◌≤◌, Bool, true, false, ◌&&◌, ◌||◌, not, cond, is_some, List, [], ◌∷◌, count_by, refl, ap, ◌∙◌, arith}
use Rattle.std.specs.List.{list_any}
use Rattle.std.proofs.lemmas.Bool.{or_from}
use Rattle.card_set.specs.declared.card.Card.{Card}
use Rattle.card_set.specs.declared.card.Slot.TheVariants as slots
use Rattle.card_set.specs.Deck.{is_same_card}
use Rattle.card_set.specs.Known.{known_slots}
use Rattle.card_set.proofs.DeckLaws.{is_same_card-self}
use Rattle.card_set.proofs.Counting.{count_by-cons}
use Rattle.play_event.specs.declared.code.Code.{Code}
use Rattle.play_event.specs.Places.{Place, is_past_deck}
use Rattle.play_event.specs.Taken.{has_repeat, has_taken_card, slot_is_card, is_in_deck, is_taken}
use Rattle.hand_gen.proofs.KnownCards.{borne}

-- a card is not among cards
none_borne : (card : Card) (cards : List Card) → count_by (is_same_card card) cards ≤ 0 → list_any (slot_is_card card) (known_slots cards) ≡ false
none_borne card [] none = refl
none_borne card (first ∷ rest) none =
    or_from (is_same_card card first) (list_any (slot_is_card card) (known_slots rest))
    (first_not (is_same_card card first) (omega (arith, none, count_by-cons (is_same_card card) first rest)))
    (none_borne card rest (omega (arith, none, count_by-cons (is_same_card card) first rest)))
  where
    first_not : (b : Bool) → cond b 1 0 ≤ 0 → b ≡ false
    first_not true few = absurd (omega (arith, few))
    first_not false few = refl

none_lies : (late : Bool) (card : Card) (placed : List Place) → list_any (slot_is_card card) (borne placed) ≡ false → list_any (λ (place : Place). not (late && is_some place.gone_after) && slot_is_card card place.slot) placed ≡ false
none_lies late card [] none = refl
none_lies late card (place ∷ rest) none = by_first (slot_is_card card place.slot) (not (late && is_some place.gone_after)) none (none_lies late card rest)
  where
    by_first : (b gone : Bool) → (b || list_any (slot_is_card card) (borne rest)) ≡ false → (list_any (slot_is_card card) (borne rest) ≡ false → list_any (λ (p : Place). not (late && is_some p.gone_after) && slot_is_card card p.slot) rest ≡ false)
        → ((gone && b) || list_any (λ (p : Place). not (late && is_some p.gone_after) && slot_is_card card p.slot) rest) ≡ false
    by_first true gone is later = absurd (cc (is))
    by_first false true is later = later is
    by_first false false is later = later is

module _ (code : Code) (placed : List Place) (dealt : List Card) (lie : borne placed ≡ known_slots dealt) where
  free : (late : Bool) (cards : List Card) → count_by (λ card. not (is_in_deck code card)) cards ≤ 0 → ((card : Card) → count_by (is_same_card card) dealt + count_by (is_same_card card) cards ≤ 1) → list_any (is_taken code placed late) (known_slots cards) ≡ false
  free late [] deck once = refl
  free late (card ∷ rest) deck once =
      let own : ◌≡◌ {A = ℕ} (cond (is_same_card card card) 1 0) 1 = ap (λ b. cond b 1 0) (is_same_card-self card) in
      let nowhere : count_by (is_same_card card) dealt ≤ 0 = omega (arith, once card, count_by-cons (is_same_card card) card rest, own) in
      or_from (is_taken code placed late (slots.Known card)) (list_any (is_taken code placed late) (known_slots rest))
      (or_from (not (is_in_deck code card)) (list_any (λ (place : Place). not (late && is_some place.gone_after) && slot_is_card card place.slot) placed)
      (in_deck (not (is_in_deck code card)) (omega (arith, deck, count_by-cons (λ c. not (is_in_deck code c)) card rest)))
      (none_lies late card placed (ap (list_any (slot_is_card card)) lie ∙ none_borne card dealt nowhere)))
      (free late rest (omega (arith, deck, count_by-cons (λ c. not (is_in_deck code c)) card rest)) (λ other. omega (arith, once other, count_by-cons (is_same_card other) card rest)))
    where
      in_deck : (b : Bool) → cond b 1 0 ≤ 0 → b ≡ false
      in_deck true few = absurd (omega (arith, few))
      in_deck false few = refl

apart : (cards : List Card) → ((card : Card) → count_by (is_same_card card) cards ≤ 1) → has_repeat (known_slots cards) ≡ false
apart [] once = refl
apart (card ∷ rest) once =
    let own : ◌≡◌ {A = ℕ} (cond (is_same_card card card) 1 0) 1 = ap (λ b. cond b 1 0) (is_same_card-self card) in
    or_from (list_any (slot_is_card card) (known_slots rest)) (has_repeat (known_slots rest))
    (none_borne card rest (omega (arith, once card, count_by-cons (is_same_card card) card rest, own)))
    (apart rest (λ other. omega (arith, once other, count_by-cons (is_same_card other) card rest)))

-- so none of them is taken
pub none_taken : (code : Code) (placed : List Place) (dealt cards : List Card) (street : ℕ) → borne placed ≡ known_slots dealt → count_by (λ card. not (is_in_deck code card)) cards ≤ 0 → ((card : Card) → count_by (is_same_card card) dealt + count_by (is_same_card card) cards ≤ 1) → has_taken_card code placed street (known_slots cards) ≡ false
none_taken code placed dealt cards street lie deck once =
    or_from (list_any (is_taken code placed (is_past_deck code placed street)) (known_slots cards)) (has_repeat (known_slots cards))
    (free code placed dealt lie (is_past_deck code placed street) cards deck once)
    (apart cards (λ card. omega (arith, once card)))
