-- What folds, discards and shows change in a dealt card: whether it is gone, and whether it is
-- known; so they make no two known cards clash.
use Rattle.std.proofs.Common.{◌≡◌, ℕ, zero, suc, Bool, true, false, ◌&&◌, ◌||◌, not, inl, inr, ◌⊎◌, Option, Some, None, is_none, List, [], ◌∷◌, map, refl, sym, ◌∙◌, ap, subst, if◌then◌else◌}
use Rattle.std.proofs.lemmas.Bool.{and_parts, and_from}
use Rattle.card_set.proofs.Options.{is_none_none}
use Rattle.card_set.proofs.Tests.{either_still, both_known, false_true}
use Rattle.card_set.specs.declared.card.Card.{Card}
use Rattle.card_set.specs.declared.card.Slot.{Slot}
use Rattle.card_set.specs.declared.card.Slot.TheVariants as slots
use Rattle.card_set.specs.Known.{hides_card}
use Rattle.play_event.specs.Places.{Place, is_held_by, gone_now, folded_place, is_same_owner}
use Rattle.play_event.specs.NameMatching.{matched_card, after_matching, is_named}
use Rattle.play_event.specs.Taken.{is_clash, may_repeat, is_gone_before, is_one_card, newly_known}
use Rattle.play_event.specs.Laws.{IsAmong}

-- a dealt card as an event left it, after this number of dealt cards: it may be gone now, and it
-- may be known now
pub record IsKept (count : ℕ) (old new : Place) : Type 0 where
  pub number : new.number ≡ old.number
  pub past_deck : new.past_deck ≡ old.past_deck
  pub gone_after : (new.gone_after ≡ old.gone_after) ⊎ ((old.gone_after ≡ None) × (new.gone_after ≡ Some count))
  pub slot : (new.slot ≡ old.slot) ⊎ ((hides_card old.slot ≡ true) × (hides_card new.slot ≡ false))

pub kept_same : (count : ℕ) (place : Place) → IsKept count place place
kept_same count place = record { number = refl; past_deck = refl; gone_after = inl refl; slot = inl refl }

-- what was gone before is gone before
none_before : (when : Option ℕ) (number : ℕ) → when ≡ None → is_gone_before when number ≡ false
none_before when number is = ap (λ g. is_gone_before g number) is

gone_still : (count : ℕ) (old new : Place) → IsKept count old new → (number : ℕ) → is_gone_before old.gone_after number ≡ true → is_gone_before new.gone_after number ≡ true
gone_still count old new kept number is = elim (kept.gone_after) [
  | inl same ↦ ap (λ g. is_gone_before g number) same ∙ is
  | inr fresh ↦ false_true (sym (none_before old.gone_after number fresh.0) ∙ is)
]

repeat_still : (count : ℕ) (a b a' b' : Place) → IsKept count a a' → IsKept count b b' → may_repeat a b ≡ true → may_repeat a' b' ≡ true
repeat_still count a b a' b' kept_a kept_b is =
    let parts = and_parts a.past_deck (is_gone_before b.gone_after a.number) is in
    and_from a'.past_deck (is_gone_before b'.gone_after a'.number) (kept_a.past_deck ∙ parts.0) (ap (is_gone_before b'.gone_after) kept_a.number ∙ gone_still count b b' kept_b a.number parts.1)

fewer_clash : (m m' s s' : Bool) → (m ≡ true → m' ≡ true) → s' ≡ s → (not m && s) ≡ false → (not m' && s') ≡ false
fewer_clash m true s s' still same is = refl
fewer_clash true false s s' still same is = false_true (still refl)
fewer_clash false false s s' still same is = same ∙ is

-- two dealt cards that did not clash, and that are known as they were before, do not clash
pub clash_kept : (count : ℕ) (a b a' b' : Place) → IsKept count a a' → IsKept count b b' → a'.slot ≡ a.slot → b'.slot ≡ b.slot → is_clash a b ≡ false → is_clash a' b' ≡ false
clash_kept count a b a' b' kept_a kept_b slot_a slot_b is =
    fewer_clash (may_repeat a b || may_repeat b a) (may_repeat a' b' || may_repeat b' a') (is_one_card a.slot b.slot) (is_one_card a'.slot b'.slot)
    (either_still (may_repeat a b) (may_repeat b a) (may_repeat a' b') (may_repeat b' a') (repeat_still count a b a' b' kept_a kept_b) (repeat_still count b a b' a' kept_b kept_a))
    (ap (λ s. is_one_card s b'.slot) slot_a ∙ ap (is_one_card a.slot) slot_b) is

-- each dealt card is kept, in order
abbrev pub AreKept : ℕ → List Place → List Place → Type 0
AreKept count [] [] = Unit {0}
AreKept count [] (new ∷ news) = ⊥
AreKept count (old ∷ olds) [] = ⊥
AreKept count (old ∷ olds) (new ∷ news) = IsKept count old new × AreKept count olds news

-- where a dealt card afterwards comes from: from one before that it keeps, and it is the same card,
-- or became known
pub record ComesFrom (count : ℕ) (before after : List Place) (new : Place) : Type 0 where
  pub old : Place
  pub among : IsAmong before old
  pub kept : IsKept count old new
  pub known : (new.slot ≡ old.slot) ⊎ IsAmong (newly_known before after) new

later_known : (b : Bool) (first : Place) (rest : List Place) (new : Place) → IsAmong rest new → IsAmong (if b then (first ∷ rest) else rest) new
later_known true first rest new is = inr is
later_known false first rest new is = is

now_known : (b : Bool) (first : Place) (rest : List Place) → b ≡ true → IsAmong (if b then (first ∷ rest) else rest) first
now_known true first rest is = inl refl
now_known false first rest is = false_true is

comes_now : (count : ℕ) (old new : Place) (olds news : List Place) → IsKept count old new → ComesFrom count (old ∷ olds) (new ∷ news) new
comes_now count old new olds news kept = record {
  old = old;
  among = inl refl;
  kept = kept;
  known = elim (kept.slot) [
    | inl same ↦ inl same
    | inr fresh ↦ inr (now_known (hides_card old.slot && not (hides_card new.slot)) new (newly_known olds news) (both_known (hides_card old.slot) (hides_card new.slot) fresh.0 fresh.1))
  ];
}

comes_later : (count : ℕ) (old new : Place) (olds news : List Place) (place : Place) → ComesFrom count olds news place → ComesFrom count (old ∷ olds) (new ∷ news) place
comes_later count old new olds news place from = record {
  old = from.old;
  among = inr from.among;
  kept = from.kept;
  known = elim (from.known) [
    | inl same ↦ inl same
    | inr fresh ↦ inr (later_known (hides_card old.slot && not (hides_card new.slot)) new (newly_known olds news) place fresh)
  ];
}

pub comes_from : (count : ℕ) (before after : List Place) → AreKept count before after → (new : Place) → IsAmong after new → ComesFrom count before after new
comes_from count [] [] kept new among = absurd among
comes_from count [] (first ∷ news) kept new among = absurd kept
comes_from count (old ∷ olds) [] kept new among = absurd kept
comes_from count (old ∷ olds) (first ∷ news) kept new (inl is) =
    let P : Place → Type 0 = ComesFrom count (old ∷ olds) (first ∷ news) in
    subst P is (comes_now count old first olds news kept.0)
comes_from count (old ∷ olds) (first ∷ news) kept new (inr later) = comes_later count old first olds news new (comes_from count olds news kept.1 new later)

-- a fold keeps each dealt card
pub held_is_there : (seat : ℕ) (place : Place) → is_held_by seat place ≡ true → place.gone_after ≡ None
held_is_there seat place held = is_none_none place.gone_after (and_parts (is_same_owner place.owner (Some seat)) (is_none place.gone_after) held).1

fold_one : (count : ℕ) (place : Place) (b : Bool) → (b ≡ true → place.gone_after ≡ None) → IsKept count place (if b then gone_now count place else place)
fold_one count place true there = record { number = refl; past_deck = refl; gone_after = inr (there refl, refl); slot = inl refl }
fold_one count place false there = kept_same count place

pub fold_keeps : (seat count : ℕ) (placed : List Place) → AreKept count placed (map (folded_place seat count) placed)
fold_keeps seat count [] = tt
fold_keeps seat count (place ∷ rest) = (fold_one count place (is_held_by seat place) (held_is_there seat place), fold_keeps seat count rest)

-- what marks a named card: it keeps it, and does not change its slot
pub record IsMark (count : ℕ) (mark : Place → Place) : Type 0 where
  pub slot : (place : Place) → (mark place).slot ≡ place.slot
  pub number : (place : Place) → (mark place).number ≡ place.number
  pub past_deck : (place : Place) → (mark place).past_deck ≡ place.past_deck
  pub gone_after : (place : Place) → ((mark place).gone_after ≡ place.gone_after) ⊎ ((mark place).gone_after ≡ Some count)

gone_marked : (count : ℕ) (mark : Place → Place) → IsMark count mark → (place : Place) → place.gone_after ≡ None → ((mark place).gone_after ≡ place.gone_after) ⊎ ((place.gone_after ≡ None) × ((mark place).gone_after ≡ Some count))
gone_marked count mark is place there = elim (is.gone_after place) [
  | inl same ↦ inl same
  | inr now ↦ inr (there, now)
]

marked_kept : (count : ℕ) (mark : Place → Place) → IsMark count mark → (place : Place) → place.gone_after ≡ None → IsKept count place (mark place)
marked_kept count mark is place there = record { number = is.number place; past_deck = is.past_deck place; gone_after = gone_marked count mark is place there; slot = inl (is.slot place) }

known_kept : (count : ℕ) (mark : Place → Place) → IsMark count mark → (place : Place) (card : Card) → place.gone_after ≡ None → hides_card place.slot ≡ true → IsKept count place (mark (record place { slot = slots.Known card }))
known_kept count mark is place card there unknown =
    let named : Place = record place { slot = slots.Known card } in
    record { number = is.number named; past_deck = is.past_deck named; gone_after = gone_marked count mark is named there; slot = inr (unknown, ap hides_card (is.slot named)) }

maybe_marked : (count : ℕ) (mark : Place → Place) → IsMark count mark → (place : Place) (b : Bool) → place.gone_after ≡ None → IsKept count place (if b then mark place else place)
maybe_marked count mark is place true there = marked_kept count mark is place there
maybe_marked count mark is place false there = kept_same count place

found_kept : (count : ℕ) (mark : Place → Place) → IsMark count mark → (names : List Card) (slot : Slot) (others : List Card) (blanks : ℕ) (place : Place) → place.slot ≡ slot → place.gone_after ≡ None → IsKept count place (matched_card mark names slot others blanks place).place
found_kept count mark is names (slots.Known card) others blanks place here there = maybe_marked count mark is place (is_named card names) there
found_kept count mark is names slots.Unknown (card ∷ others) blanks place here there = known_kept count mark is place card there (ap hides_card here)
found_kept count mark is names slots.Unknown [] zero place here there = kept_same count place
found_kept count mark is names slots.Unknown [] (suc blanks) place here there = marked_kept count mark is place there

names_step : (count : ℕ) (covers : Place → Bool) (mark : Place → Place) (names others : List Card) (blanks : ℕ) (place : Place) (rest : List Place) (b : Bool) → IsKept count place (matched_card mark names place.slot others blanks place).place ⊎ (b ≡ false) → ((os : List Card) (n : ℕ) → AreKept count rest (after_matching covers mark names os n rest)) → AreKept count (place ∷ rest) (if b then (let found = matched_card mark names place.slot others blanks place in found.place ∷ after_matching covers mark names found.others found.blanks rest) else (place ∷ after_matching covers mark names others blanks rest))
names_step count covers mark names others blanks place rest true (inl kept) later =
    (kept, later (matched_card mark names place.slot others blanks place).others (matched_card mark names place.slot others blanks place).blanks)
names_step count covers mark names others blanks place rest true (inr is) later = false_true (sym is)
names_step count covers mark names others blanks place rest false kept later = (kept_same count place, later others blanks)

names_covered : (count : ℕ) (mark : Place → Place) (names others : List Card) (blanks : ℕ) (place : Place) (b : Bool) → IsMark count mark → (b ≡ true → place.gone_after ≡ None) → IsKept count place (matched_card mark names place.slot others blanks place).place ⊎ (b ≡ false)
names_covered count mark names others blanks place true is there = inl (found_kept count mark is names place.slot others blanks place refl (there refl))
names_covered count mark names others blanks place false is there = inr refl

-- names keep each dealt card, if they are matched only with cards that are not gone
pub names_keep : (count : ℕ) (covers : Place → Bool) (mark : Place → Place) → IsMark count mark → ((place : Place) → covers place ≡ true → place.gone_after ≡ None) → (names others : List Card) (blanks : ℕ) (placed : List Place) → AreKept count placed (after_matching covers mark names others blanks placed)
names_keep count covers mark is there names others blanks [] = tt
names_keep count covers mark is there names others blanks (place ∷ rest) =
    names_step count covers mark names others blanks place rest (covers place) (names_covered count mark names others blanks place (covers place) is (there place))
    (λ os n. names_keep count covers mark is there names os n rest)
