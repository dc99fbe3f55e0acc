-- The known cards of slots, one slot after another.
use Rattle.std.proofs.Common.{◌≡◌, ◌<◌, ◌+◌, ℕ, List, [], ◌∷◌, ◌++◌, length, take, get_or, refl, ap, ◌∙◌, false, suc, true≢false}
use Rattle.std.proofs.lemmas.List.{take_more}
use Rattle.card_set.specs.declared.card.Card.{Card}
use Rattle.card_set.specs.declared.card.Slot.{Slot}
use Rattle.card_set.specs.declared.card.Slot.TheVariants as slots
use Rattle.card_set.specs.Known.{known_among, known_slots, hides_card}
use Rattle.std.specs.List.{list_any}

pub known_append : (first second : List Slot) → known_among (first ++ second) ≡ known_among first ++ known_among second
known_append [] second = refl
known_append (slots.Known card ∷ rest) second = ap (λ (cards : List Card). card ∷ cards) (known_append rest second)
known_append (slots.Unknown ∷ rest) second = known_append rest second

-- the known cards of one more slot
pub one_known_more : (cards : List Slot) (i : ℕ) (d : Slot) → i < length cards → known_among (take (i + 1) cards) ≡ known_among (take i cards) ++ known_among (get_or cards i d ∷ [])
one_known_more cards i d inside = ap known_among (take_more cards i d inside) ∙ known_append (take i cards) (get_or cards i d ∷ [])

-- the slots of known cards are those cards
pub all_known : (cards : List Card) → known_among (known_slots cards) ≡ cards
all_known [] = refl
all_known (card ∷ rest) = ap (λ (l : List Card). card ∷ l) (all_known rest)

pub all_known_length : (cards : List Slot) → list_any hides_card cards ≡ false → length (known_among cards) ≡ length cards
all_known_length [] known = refl
all_known_length (slots.Unknown ∷ rest) known = absurd (true≢false known)
all_known_length (slots.Known card ∷ rest) known = ap suc (all_known_length rest known)
