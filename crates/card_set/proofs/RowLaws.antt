-- Two rows with the same entries are the same.
use Rattle.std.proofs.Common.{◌≡◌, ℕ, ◌≤◌, ◌<◌, List, length, take, get_or, slice_get, Some, sym, ◌∙◌, ap, subst, arith, ⊎_elim, length-take}
use Rattle.std.proofs.Props.{props}
use Rattle.std.proofs.lemmas.Bool.{cases_lt}
use Rattle.std.proofs.lemmas.List.{ext_get_or, get_or-take, length-take-le}
use Rattle.std.proofs.lemmas.Option.{get_or_from_slice_get}
use Rattle.card_set.specs.declared.card.Card.{Card}
use Rattle.card_set.specs.declared.card.Slot.{Slot}
use Rattle.card_set.specs.declared.row.SlotRow.{SlotRow}
use Rattle.card_set.specs.declared.row.CardRow.{CardRow}
use Rattle.card_set.specs.Filler.{filler_card, filler_slot}
use Rattle.card_set.specs.Row.{slots_of, cards_of}

-- what a row of slots keeps
record KeptSlots (len : ℕ) (slots : List Slot) : Type 0 where
  fits : len ≤ 7
  entries : length slots ≡ 7
  filled : (k : ℕ) → len ≤ k → k < 7 → slice_get slots k ≡ Some filler_slot

KeptSlots-prop : (len : ℕ) (slots : List Slot) → IsProp (KeptSlots len slots)
KeptSlots-prop len slots = hlevel props

slot_row : (len : ℕ) (slots : List Slot) → KeptSlots len slots → SlotRow
slot_row len slots kept =
    record { len = len; slots = slots; fits = kept.fits; entries = kept.entries; filled = kept.filled }

kept_slots : (row : SlotRow) → KeptSlots row.len row.slots
kept_slots row = record { fits = row.fits; entries = row.entries; filled = row.filled }

-- rows with the same number and the same entries, fillers included, are the same
pub slot_row_same : (a b : SlotRow) → a.len ≡ b.len → a.slots ≡ b.slots → a ≡ b
unfolding slot_row kept_slots
slot_row_same a b len slots =
    let P : ℕ → List Slot → Type 0 = λ n xs. (kept : KeptSlots n xs) → a ≡ slot_row n xs kept in
    let here : P a.len a.slots =
    λ kept. ap (slot_row a.len a.slots) (KeptSlots-prop a.len a.slots (kept_slots a) kept) in
    subst (λ xs. P b.len xs) slots (subst (λ n. P n a.slots) len here) (kept_slots b)

-- what a row of cards keeps
record KeptCards (len : ℕ) (cards : List Card) : Type 0 where
  fits : len ≤ 7
  entries : length cards ≡ 7
  filled : (k : ℕ) → len ≤ k → k < 7 → slice_get cards k ≡ Some filler_card

KeptCards-prop : (len : ℕ) (cards : List Card) → IsProp (KeptCards len cards)
KeptCards-prop len cards = hlevel props

card_row : (len : ℕ) (cards : List Card) → KeptCards len cards → CardRow
card_row len cards kept =
    record { len = len; cards = cards; fits = kept.fits; entries = kept.entries; filled = kept.filled }

kept_cards : (row : CardRow) → KeptCards row.len row.cards
kept_cards row = record { fits = row.fits; entries = row.entries; filled = row.filled }

-- rows with the same number and the same entries, fillers included, are the same
pub card_row_same : (a b : CardRow) → a.len ≡ b.len → a.cards ≡ b.cards → a ≡ b
unfolding card_row kept_cards
card_row_same a b len cards =
    let P : ℕ → List Card → Type 0 = λ n xs. (kept : KeptCards n xs) → a ≡ card_row n xs kept in
    let here : P a.len a.cards =
    λ kept. ap (card_row a.len a.cards) (KeptCards-prop a.len a.cards (kept_cards a) kept) in
    subst (λ xs. P b.len xs) cards (subst (λ n. P n a.cards) len here) (kept_cards b)

-- lists of one length with the same front, followed by fillers, are the same
same_filled : {X : Type 0} (filler : X) (xs ys : List X) (len : ℕ) → length xs ≡ 7 → length ys ≡ 7 → take len xs ≡ take len ys → ((k : ℕ) → len ≤ k → k < 7 → slice_get xs k ≡ Some filler) → ((k : ℕ) → len ≤ k → k < 7 → slice_get ys k ≡ Some filler) → xs ≡ ys
same_filled filler xs ys len full whole front behind after =
    ext_get_or filler xs ys (full ∙ sym whole) (λ k within.
    ⊎_elim
    (λ (early : k < len). sym (get_or-take len xs k filler early) ∙ ap (λ l. get_or l k filler) front ∙ get_or-take len ys k filler early)
    (λ (late : len ≤ k). get_or_from_slice_get xs k filler filler (behind k late (omega arith)) ∙ sym (get_or_from_slice_get ys k filler filler (after k late (omega arith))))
    (cases_lt k len))

-- rows with the same slots are the same
pub slots_same : (a b : SlotRow) → slots_of a ≡ slots_of b → a ≡ b
slots_same a b same =
    let len : a.len ≡ b.len =
    omega (arith, a.fits, b.fits, a.entries, b.entries, ap length same, length-take a.len a.slots, length-take b.len b.slots) in
    slot_row_same a b len (same_filled filler_slot a.slots b.slots a.len a.entries b.entries (same ∙ ap (λ n. take n b.slots) (sym len)) a.filled (λ k late. b.filled k (omega (arith, late, len))))

-- rows with the same cards are the same
pub cards_same : (a b : CardRow) → cards_of a ≡ cards_of b → a ≡ b
cards_same a b same =
    let len : a.len ≡ b.len =
    omega (arith, a.fits, b.fits, a.entries, b.entries, ap length same, length-take a.len a.cards, length-take b.len b.cards) in
    card_row_same a b len (same_filled filler_card a.cards b.cards a.len a.entries b.entries (same ∙ ap (λ n. take n b.cards) (sym len)) a.filled (λ k late. b.filled k (omega (arith, late, len))))

pub row_length : (row : SlotRow) → length (slots_of row) ≡ row.len
row_length row = length-take-le row.len row.slots (omega (arith, row.fits, row.entries))
