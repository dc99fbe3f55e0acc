-- Known cards are read from their letters alone.
use Rattle.std.proofs.Common.{◌≡◌, ◌≢◌, ℕ, ◌≤◌, Bool, not, ◌&&◌, eqb, true, false, if◌then◌else◌, List, length, Option, Some, None, option_and_then, refl, ap, sym, ◌∙◌, inl, inr, arith}
use Rattle.std.specs.List.{list_any}
use Rattle.std.proofs.lemmas.Bool.{cases_Bool, and_parts}
use Rattle.std.proofs.lemmas.Bool.Decides.{nat_tests}
use Rattle.card_set.specs.declared.card.Slot.{Slot}
use Rattle.card_set.specs.declared.row.SlotRow.{SlotRow}
use Rattle.card_set.specs.Row.{slots_of}
use Rattle.card_set.specs.declared.spelling.CardFault.{CardFault}
use Rattle.card_set.specs.Known.{hides_card}
use Rattle.card_set.specs.Spelling.{spelling, slots_spelled, HasFault}
use Rattle.card_set.proofs.Spelled.{slots_spelled-spelling, spelling-slots_spelled, fault_spells_nothing}
use Rattle.acpc_reading.specs.Cards.{only_known, known_said}
use Rattle.card_set.proofs.RowLaws.{row_length}

-- letters that write slots say them, if there are `count` of them and all are known
pub known_read : (count : ℕ) (word : List ℕ) (cards : List Slot) → word ≡ spelling cards → known_said count word ≡ only_known count cards
unfolding known_said
known_read count word cards is = ap (option_and_then (only_known count)) (ap slots_spelled is ∙ slots_spelled-spelling cards)

other_count : (count : ℕ) (cards : List Slot) → (length cards ≡ count → ⊥) → only_known count cards ≡ None
other_count count cards other =
    elim (cases_Bool (eqb (length cards) count && not (list_any hides_card cards))) [
      | inl both ↦
          let same : eqb (length cards) count ≡ true = (and_parts (eqb (length cards) count) (not (list_any hides_card cards)) both).0 in
          absurd (other (grind (arith, nat_tests, same)))
      | inr none ↦ rw none refl
    ]

faulty : (count : ℕ) (word : List ℕ) (fault : CardFault) (found : Option (List Slot)) → slots_spelled word ≡ found → HasFault word fault → count ≤ 7 → option_and_then (only_known count) found ≡ None
faulty count word fault None is has few = refl
faulty count word fault (Some cards) is has few = other_count count cards (λ same. fault_spells_nothing word fault has cards (omega (arith, same, few)) (spelling-slots_spelled word cards is))

pub bad_known : (count : ℕ) (word : List ℕ) (fault : CardFault) → HasFault word fault → count ≤ 7 → known_said count word ≡ None
unfolding known_said
bad_known count word fault has few = faulty count word fault (slots_spelled word) refl has few

without : (long : Bool) (cards : List Slot) (known : Bool) → known ≡ false → (if long && known then Some cards else None) ≡ None
without true cards known is = rw is refl
without false cards known is = refl

-- the letters of a row of another number of slots
pub other_len : (count : ℕ) (word : List ℕ) (row : SlotRow) → word ≡ spelling (slots_of row) → row.len ≢ count → known_said count word ≡ None
other_len count word row is other = known_read count word (slots_of row) is ∙ other_count count (slots_of row) (λ same. other (sym (row_length row) ∙ same))

-- the letters of a row with an unknown slot
pub some_unknown : (count : ℕ) (word : List ℕ) (row : SlotRow) → word ≡ spelling (slots_of row) → list_any hides_card (slots_of row) ≡ true → known_said count word ≡ None
some_unknown count word row is some = known_read count word (slots_of row) is ∙ without (eqb (length (slots_of row)) count) (slots_of row) (not (list_any hides_card (slots_of row))) (ap not some)

-- the letters of a row of `count` known slots
pub all_known : (count : ℕ) (word : List ℕ) (row : SlotRow) → word ≡ spelling (slots_of row) → row.len ≡ count → list_any hides_card (slots_of row) ≡ false → known_said count word ≡ Some (slots_of row)
all_known count word row is same all =
    let long : eqb (length (slots_of row)) count ≡ true = grind (arith, nat_tests, row_length row, same) in
    known_read count word (slots_of row) is ∙ rw (long, all) refl
