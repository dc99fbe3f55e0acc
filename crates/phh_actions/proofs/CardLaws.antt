-- Laws of the cards of an action: what is read from them is what they mean.
use Rattle.std.proofs.Common.{◌≡◌, ℕ, ◌≤◌, ◌&&◌, nat_le, List, length, Option, Some, None, Err, refl, ap, ◌∙◌, arith, inl, inr}
use Rattle.std.proofs.lemmas.Bool.{cases_Bool, and_parts, leb-true}
use Rattle.first_fault.specs.Reading.{◌>>=◌}
use Rattle.card_set.specs.declared.card.Slot.{Slot}
use Rattle.card_set.specs.declared.spelling.CardFault.{CardFault}
use Rattle.card_set.specs.Spelling.{spelling, slots_spelled, HasFault}
use Rattle.card_set.proofs.Spelled.{slots_spelled-spelling, spelling-slots_spelled, fault_spells_nothing}
use Rattle.first_fault.specs.Forms.{or_fault}
use Rattle.phh_actions.specs.declared.fault.ActionFault.TheVariants as faults
use Rattle.phh_actions.specs.Action.{one_to, slots_said}

-- letters of cards mean these cards, if there are one to this many
pub slots_read : (most : ℕ) (word : List ℕ) (slots : List Slot) → word ≡ spelling slots → slots_said most word ≡ one_to most slots
unfolding slots_said
slots_read most word slots is =
    ap (λ (found : Option (List Slot)). or_fault faults.BadAction found >>= one_to most) (ap slots_spelled is ∙ slots_spelled-spelling slots)

too_few_or_many : (most : ℕ) (slots : List Slot) → (1 ≤ length slots → length slots ≤ most → ⊥) → one_to most slots ≡ Err faults.BadAction
too_few_or_many most slots bad =
    elim (cases_Bool (nat_le 1 (length slots) && nat_le (length slots) most)) [
      | inl both ↦
          let parts = and_parts (nat_le 1 (length slots)) (nat_le (length slots) most) both in
          absurd (bad (leb-true 1 (length slots) parts.0) (leb-true (length slots) most parts.1))
      | inr other ↦ rw other refl
    ]

faulty : (most : ℕ) (word : List ℕ) (fault : CardFault) (found : Option (List Slot)) → most ≤ 7 → slots_spelled word ≡ found → HasFault word fault → (or_fault faults.BadAction found >>= one_to most) ≡ Err faults.BadAction
faulty most word fault None few is has = refl
faulty most word fault (Some slots) few is has =
    too_few_or_many most slots (λ some short. fault_spells_nothing word fault has slots (omega (arith, few, short)) (spelling-slots_spelled word slots is))

-- letters with a fault mean no cards
pub bad_slots : (most : ℕ) (word : List ℕ) (fault : CardFault) → most ≤ 7 → HasFault word fault → slots_said most word ≡ Err faults.BadAction
unfolding slots_said
bad_slots most word fault few has = faulty most word fault (slots_spelled word) few refl has
