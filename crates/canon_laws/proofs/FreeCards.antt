-- In the canonical order no card is taken: if a card occurs twice, it was gone before and is dealt
-- again after the deck ran out.
use Rattle.std.proofs.Common.{◌≡◌, ◌≢◌, ◌≤◌, Bool, true, false, ◌&&◌, ◌||◌, not, inl, inr, is_some, List, [], ◌∷◌, refl, sym, ◌∙◌, ap, arith}
use Rattle.std.specs.List.{list_any}
use Rattle.std.proofs.lemmas.Bool.{and_parts, or_cases, or_from, and_from, and_right}
use Rattle.card_set.specs.declared.card.Card.{Card}
use Rattle.card_set.specs.declared.card.Slot.{Slot}
use Rattle.card_set.specs.declared.card.Slot.TheVariants as slots
use Rattle.play_event.specs.declared.code.Code.{Code}
use Rattle.play_event.specs.Past.{Move}
use Rattle.play_event.specs.Places.{Place}
use Rattle.play_event.specs.Taken.{is_clash, may_repeat, is_gone_before, is_one_card, slot_is_card, is_in_deck, is_not_in_deck, is_taken}
use Rattle.play_event.specs.Laws.{IsAmong}
use Rattle.card_set.proofs.Tests.{false_true}
use Rattle.play_laws.specs.LegalPlaces.{has_owner_folded, is_gone_by, AreLawful}
use Rattle.canon_laws.proofs.Mirrors.{Mirrors, AreMirrored}

-- two places with the same card: one may repeat the other
either_repeats : (a b : Place) (m : Bool) → (may_repeat a b || may_repeat b a) ≡ m → is_clash a b ≡ false → is_one_card a.slot b.slot ≡ true → m ≡ true
either_repeats a b true same apart one = refl
either_repeats a b false same apart one = false_true (sym apart ∙ (ap (λ m. not m && is_one_card a.slot b.slot) same ∙ one))

-- if a card of a street occurs on this street or before, it was gone by the street, and is dealt
-- again after the deck ran out
pub late_and_gone : (code : Code) (moves : List Move) (placed : List Place) (old new : Place) → AreLawful code moves placed → IsAmong placed old → IsAmong placed new → old.street ≤ new.street → new.number ≢ old.number → is_one_card new.slot old.slot ≡ true → (new.past_deck ≡ true) × (is_gone_by moves new.street old ≡ true)
late_and_gone code moves placed old new law in_old in_new before differ one = elim (or_cases (may_repeat new old) (may_repeat old new) (either_repeats new old (may_repeat new old || may_repeat old new) refl (law.apart new old in_new in_old differ) one)) [
  | inl is ↦ let parts = and_parts new.past_deck (is_gone_before old.gone_after new.number) is in (parts.0, law.gone_when old new in_old in_new parts.1)
  | inr is ↦
      let parts = and_parts old.past_deck (is_gone_before new.gone_after old.number) is in
      absurd (omega (arith, before, law.gone_after new old.street in_new (law.gone_when new old in_new in_old parts.1)))
]

-- so two cards of one street differ
pub street_apart : (code : Code) (moves : List Move) (placed : List Place) (a b : Place) → AreLawful code moves placed → IsAmong placed a → IsAmong placed b → a.street ≡ b.street → b.number ≢ a.number → is_one_card b.slot a.slot ≡ false
street_apart code moves placed a b law in_a in_b same differ = not_one (is_one_card b.slot a.slot) (λ one.
    let both = late_and_gone code moves placed a b law in_a in_b (omega (arith, same)) differ one in
    omega (arith, same, law.gone_after a b.street in_a both.1))
  where
    not_one : (b : Bool) → (b ≡ true → ⊥) → b ≡ false
    not_one false never = refl
    not_one true never = absurd (never refl)

-- the canonical script's cards of other streets: one that occurs again is gone, and the street
-- deals after the deck ran out
pub record IsFreeOver (out : Place → Bool) (moves : List Move) (late : Bool) (slot : Slot) (final : Place) : Type 0 where
  pub when : is_one_card slot final.slot ≡ true → (late ≡ true) × ((out final || has_owner_folded moves final.owner) ≡ true)

free_here : (late gone one : Bool) → (one ≡ true → (late ≡ true) × (gone ≡ true)) → (not (late && gone) && one) ≡ false
free_here late gone false when = and_right (not (late && gone)) false refl
free_here late gone true when = let both = when refl in ap (λ b. not b && true) (and_from late gone both.0 both.1)

free_mirror : (moves : List Move) (out : Place → Bool) (late : Bool) (card : Card) (mine final : Place) → Mirrors moves out mine final → IsFreeOver out moves late (slots.Known card) final → (not (late && is_some mine.gone_after) && slot_is_card card mine.slot) ≡ false
free_mirror moves out late card mine final mirror free =
    free_here late (is_some mine.gone_after) (slot_is_card card mine.slot) (λ one.
    let both = free.when (sym (ap (slot_is_card card) mirror.slot) ∙ one) in (both.0, mirror.gone_after ∙ both.1))

free_all : (moves : List Move) (out : Place → Bool) (late : Bool) (card : Card) (mines finals : List Place) → AreMirrored moves out mines finals → ((final : Place) → IsAmong finals final → IsFreeOver out moves late (slots.Known card) final) → list_any (λ place. not (late && is_some place.gone_after) && slot_is_card card place.slot) mines ≡ false
free_all moves out late card [] [] mirrored free = refl
free_all moves out late card [] (final ∷ finals) mirrored free = refl
free_all moves out late card (mine ∷ mines) [] mirrored free = absurd mirrored
free_all moves out late card (mine ∷ mines) (final ∷ finals) mirrored free =
    or_from (not (late && is_some mine.gone_after) && slot_is_card card mine.slot) (list_any (λ place. not (late && is_some place.gone_after) && slot_is_card card place.slot) mines)
    (free_mirror moves out late card mine final mirrored.0 (free final (inl refl)))
    (free_all moves out late card mines finals mirrored.1 (λ other among. free other (inr among)))

-- a slot that is in the deck and free over the places is not taken
pub not_taken : (code : Code) (moves : List Move) (out : Place → Bool) (late : Bool) (slot : Slot) (mines finals : List Place) → AreMirrored moves out mines finals → is_not_in_deck code slot ≡ false → ((final : Place) → IsAmong finals final → IsFreeOver out moves late slot final) → is_taken code mines late slot ≡ false
not_taken code moves out late slots.Unknown mines finals mirrored deck free = refl
not_taken code moves out late (slots.Known card) mines finals mirrored deck free =
    or_from (not (is_in_deck code card)) (list_any (λ place. not (late && is_some place.gone_after) && slot_is_card card place.slot) mines) deck (free_all moves out late card mines finals mirrored free)
