-- A text means one card, known or unknown, if and only if it is the letters of a list of one card.
use Rattle.std.proofs.Common.{◌≡◌, ℕ, List, [], ◌∷◌, ◌++◌, Option, Some, None, refl, sym, ap, ◌∙◌, arith}
use Rattle.card_set.specs.declared.card.Slot.{Slot}
use Rattle.card_set.specs.declared.card.Slot.TheVariants as slots
use Rattle.card_set.specs.declared.spelling.CardFault.{CardFault}
use Rattle.card_set.specs.Spelling.{spelling, slot_spelled, HasFault}
use Rattle.card_set.proofs.Spelled.{slot_spelled-card, slot_spelled-unknown, slot_spelling-slot_spelled, fault_spells_nothing}
use Rattle.ohh_members.specs.Values.{slot_in, one_slot}

spelled_one : (cards : List Slot) → slot_in (spelling cards) ≡ one_slot cards
spelled_one [] = refl
spelled_one (slots.Unknown ∷ []) = slot_spelled-unknown
spelled_one (slots.Known card ∷ []) = slot_spelled-card card.rank card.suit
spelled_one (slots.Unknown ∷ slots.Unknown ∷ rest) = refl
spelled_one (slots.Unknown ∷ slots.Known card ∷ rest) = refl
spelled_one (slots.Known card ∷ slots.Unknown ∷ rest) = refl
spelled_one (slots.Known card ∷ slots.Known other ∷ rest) = refl

-- the card of these letters
pub slot_read : (text : List ℕ) (cards : List Slot) → text ≡ spelling cards → slot_in text ≡ one_slot cards
slot_read text cards is = ap slot_in is ∙ spelled_one cards

found_none : (first second : ℕ) (fault : CardFault) (found : Option Slot) → slot_spelled first second ≡ found → HasFault (first ∷ second ∷ []) fault → found ≡ None
found_none first second fault None is has = refl
found_none first second fault (Some slot) is has =
    absurd (fault_spells_nothing (first ∷ second ∷ []) fault has (slot ∷ []) (omega arith) (sym (ap (λ word. word ++ []) (slot_spelling-slot_spelled first second slot is))))

-- letters with a fault mean no card
pub bad_slot : (text : List ℕ) (fault : CardFault) → HasFault text fault → slot_in text ≡ None
bad_slot [] fault has = refl
bad_slot (first ∷ []) fault has = refl
bad_slot (first ∷ second ∷ []) fault has = found_none first second fault (slot_spelled first second) refl has
bad_slot (first ∷ second ∷ third ∷ rest) fault has = refl
