-- No legal event makes two dealt cards clash.
use Rattle.std.proofs.Common.{◌≡◌, ◌≢◌, ℕ, ◌+◌, ◌≤◌, ◌==◌, Bool, true, false, ◌&&◌, ◌||◌, not, inl, inr, ◌⊎◌, Option, Some, None, is_some, List, [], ◌∷◌, ◌++◌, length, count_by, refl, sym, ◌∙◌, ap, subst, arith}
use Rattle.std.specs.List.{list_any}
use Rattle.std.proofs.lemmas.Bool.{or_parts, le-leb}
use Rattle.std.proofs.Math.Bool.{or_comm}
use Rattle.card_set.proofs.Numbers.{different_number, eq_true_both}
use Rattle.card_set.proofs.Tests.{and_false, false_true}
use Rattle.card_set.specs.declared.card.Slot.{Slot}
use Rattle.card_set.specs.declared.card.Slot.TheVariants as slots
use Rattle.card_set.specs.Deck.{deck_index}
use Rattle.play_event.specs.declared.code.Code.{Code}
use Rattle.play_event.specs.Places.{Place, places_dealt, after_deal, is_past_deck, is_in_group}
use Rattle.play_event.specs.Taken.{is_clash, may_repeat, is_gone_before, is_one_card, slot_is_card, is_in_deck, is_taken, has_repeat, is_repeated, has_taken_card, has_misplaced_card, is_misplaced, is_not_in_deck, newly_known}
use Rattle.play_event.specs.Laws.{IsAmong, NoneClash}
use Rattle.play_event.proofs.Kept.{AreKept, ComesFrom, comes_from, clash_kept}

one_card_both : (a b : Slot) → is_one_card a b ≡ is_one_card b a
one_card_both (slots.Known a) (slots.Known b) = sym (eq_true_both (deck_index a) (deck_index b) (deck_index a == deck_index b) refl)
one_card_both (slots.Known a) slots.Unknown = refl
one_card_both slots.Unknown (slots.Known b) = refl
one_card_both slots.Unknown slots.Unknown = refl

clash_both : (a b : Place) → is_clash a b ≡ is_clash b a
clash_both a b =
    ap (λ m. not m && is_one_card a.slot b.slot) (or_comm (may_repeat a b) (may_repeat b a))
    ∙ ap (λ s. not (may_repeat b a || may_repeat a b) && s) (one_card_both a.slot b.slot)

-- if a test passes nowhere, it does not pass at a place of the list
pub not_at : (p : Place → Bool) (placed : List Place) (place : Place) → list_any p placed ≡ false → IsAmong placed place → p place ≡ false
not_at p [] place none among = absurd among
not_at p (first ∷ rest) place none (inl is) = ap p (sym is) ∙ (or_parts (p first) (list_any p rest) none).0
not_at p (first ∷ rest) place none (inr later) = not_at p rest place (or_parts (p first) (list_any p rest) none).1 later

fresh_fits : (code : Code) (before after : List Place) (a b : Place) → has_misplaced_card code before after ≡ false → IsAmong (newly_known before after) a → IsAmong after b → a.number ≢ b.number → is_clash a b ≡ false
fresh_fits code before after a b fits fresh among differ =
    let placed_well : is_misplaced code after a ≡ false = not_at (is_misplaced code after) (newly_known before after) a fits fresh in
    let others : list_any (λ other. not (other.number == a.number) && is_clash a other) after ≡ false = (or_parts (is_not_in_deck code a.slot) (list_any (λ other. not (other.number == a.number) && is_clash a other) after) placed_well).1 in
    let here : (not (b.number == a.number) && is_clash a b) ≡ false = not_at (λ other. not (other.number == a.number) && is_clash a other) after b others among in
    sym (ap (λ x. not x && is_clash a b) (different_number b.number a.number differ)) ∙ here

kept_pair : (code : Code) (count : ℕ) (before after : List Place) (a b : Place) → NoneClash before → has_misplaced_card code before after ≡ false → IsAmong after a → IsAmong after b → a.number ≢ b.number → ComesFrom count before after a → ComesFrom count before after b → is_clash a b ≡ false
kept_pair code count before after a b none fits in_a in_b differ from_a from_b = elim (from_a.known) [
  | inr fresh ↦ fresh_fits code before after a b fits fresh in_b differ
  | inl same_a ↦ elim (from_b.known) [
    | inr fresh ↦ clash_both a b ∙ fresh_fits code before after b a fits fresh in_a (λ is. differ (sym is))
    | inl same_b ↦ clash_kept count from_a.old from_b.old a b from_a.kept from_b.kept same_a same_b
        (none from_a.old from_b.old from_a.among from_b.among (λ is. differ (from_a.kept.number ∙ is ∙ sym from_b.kept.number)))
  ]
]

pub kept_none_clash : (code : Code) (count : ℕ) (before after : List Place) → AreKept count before after → has_misplaced_card code before after ≡ false → NoneClash before → NoneClash after
kept_none_clash code count before after kept fits none a b in_a in_b differ =
    kept_pair code count before after a b none fits in_a in_b differ (comes_from count before after kept a in_a) (comes_from count before after kept b in_b)

-- a card that was just dealt: it is one of these cards, its number is not below that of the first,
-- and it is not gone
abbrev pub IsOneOf : List Slot → Slot → Type 0
IsOneOf [] slot = ⊥
IsOneOf (first ∷ rest) slot = (first ≡ slot) ⊎ IsOneOf rest slot

pub record IsDealt (late : Bool) (least : ℕ) (cards : List Slot) (place : Place) : Type 0 where
  pub slot : IsOneOf cards place.slot
  pub past_deck : place.past_deck ≡ late
  pub gone_after : place.gone_after ≡ None
  pub number : least ≤ place.number

dealt_later : (late : Bool) (least : ℕ) (first : Slot) (rest : List Slot) (place : Place) → IsDealt late (least + 1) rest place → IsDealt late least (first ∷ rest) place
dealt_later late least first rest place is = record { slot = inr is.slot; past_deck = is.past_deck; gone_after = is.gone_after; number = omega (arith, is.number) }

dealt_first : (owner : Option ℕ) (street : ℕ) (late : Bool) (index least : ℕ) (first : Slot) (rest : List Slot) → IsDealt late least (first ∷ rest) (record { owner = owner; street = street; index = index; number = least; slot = first; past_deck = late; gone_after = None; discarded = 0 })
dealt_first owner street late index least first rest = record { slot = inl refl; past_deck = refl; gone_after = refl; number = omega arith }

pub are_dealt : (owner : Option ℕ) (street : ℕ) (late : Bool) (index least : ℕ) (cards : List Slot) (place : Place) → IsAmong (places_dealt owner street late index least cards) place → IsDealt late least cards place
are_dealt owner street late index least [] place among = absurd among
are_dealt owner street late index least (first ∷ rest) place (inl is) =
    let P : Place → Type 0 = IsDealt late least (first ∷ rest) in
    subst P is (dealt_first owner street late index least first rest)
are_dealt owner street late index least (first ∷ rest) place (inr later) = dealt_later late least first rest place (are_dealt owner street late (index + 1) (least + 1) rest place later)

-- a test that passes at none of some slots
not_one_of : (p : Slot → Bool) (cards : List Slot) (slot : Slot) → list_any p cards ≡ false → IsOneOf cards slot → p slot ≡ false
not_one_of p [] slot none among = absurd among
not_one_of p (first ∷ rest) slot none (inl is) = ap p (sym is) ∙ (or_parts (p first) (list_any p rest) none).0
not_one_of p (first ∷ rest) slot none (inr later) = not_one_of p rest slot (or_parts (p first) (list_any p rest) none).1 later

-- dealt cards that are different known cards do not clash
different_clash : (a b : Place) → is_one_card a.slot b.slot ≡ false → is_clash a b ≡ false
different_clash a b differ = ap (λ s. not (may_repeat a b || may_repeat b a) && s) differ ∙ and_false (not (may_repeat a b || may_repeat b a))

-- the cards of one deal do not clash
stands_once : (first : Slot) (rest : List Slot) (slot : Slot) → is_repeated first rest ≡ false → IsOneOf rest slot → is_one_card first slot ≡ false
stands_once (slots.Known card) rest slot once among = not_one_of (slot_is_card card) rest slot once among
stands_once slots.Unknown rest slot once among = refl

dealt_apart : (owner : Option ℕ) (street : ℕ) (late : Bool) (index least : ℕ) (cards : List Slot) → has_repeat cards ≡ false → NoneClash (places_dealt owner street late index least cards)
dealt_apart owner street late index least [] once a b in_a in_b differ = absurd in_a
dealt_apart owner street late index least (first ∷ rest) once a b (inl is_a) (inl is_b) differ = absurd (differ (ap (λ p. p.number) (sym is_a ∙ is_b)))
dealt_apart owner street late index least (first ∷ rest) once a b (inl is_a) (inr in_b) differ =
    different_clash a b (ap (λ (p : Place). is_one_card p.slot b.slot) (sym is_a) ∙ stands_once first rest b.slot (or_parts (is_repeated first rest) (has_repeat rest) once).0 (are_dealt owner street late (index + 1) (least + 1) rest b in_b).slot)
dealt_apart owner street late index least (first ∷ rest) once a b (inr in_a) (inl is_b) differ =
    clash_both a b ∙ different_clash b a (ap (λ (p : Place). is_one_card p.slot a.slot) (sym is_b) ∙ stands_once first rest a.slot (or_parts (is_repeated first rest) (has_repeat rest) once).0 (are_dealt owner street late (index + 1) (least + 1) rest a in_a).slot)
dealt_apart owner street late index least (first ∷ rest) once a b (inr in_a) (inr in_b) differ =
    dealt_apart owner street late (index + 1) (least + 1) rest (or_parts (is_repeated first rest) (has_repeat rest) once).1 a b in_a in_b differ

-- how many deals there were when a card was gone
abbrev pub GoneWithin : List Place → Type 0
GoneWithin placed = (place : Place) → IsAmong placed place → (count : ℕ) → place.gone_after ≡ Some count → count ≤ length placed

-- a card that is not taken does not clash with those before
repeats_late : (late : Bool) (when : Option ℕ) (least number : ℕ) → ((count : ℕ) → when ≡ Some count → count ≤ least) → least ≤ number → (late && is_some when) ≡ (late && is_gone_before when number)
repeats_late false when least number within above = refl
repeats_late true None least number within above = refl
repeats_late true (Some count) least number within above = sym (le-leb count number (omega (arith, within count refl, above)))

without_own : (m k s : Bool) → k ≡ false → (not m && s) ≡ false → (not (m || k) && s) ≡ false
without_own true k s none is = refl
without_own false true s none is = false_true (sym none)
without_own false false s none is = is

not_taken : (card : Slot) (code : Code) (placed : List Place) (late : Bool) (old : Place) → is_taken code placed late card ≡ false → IsAmong placed old → (not (late && is_some old.gone_after) && is_one_card card old.slot) ≡ false
not_taken (slots.Known card) code placed late old free among =
    not_at (λ place. not (late && is_some place.gone_after) && slot_is_card card place.slot) placed old (or_parts (not (is_in_deck code card)) (list_any (λ place. not (late && is_some place.gone_after) && slot_is_card card place.slot) placed) free).1 among
not_taken slots.Unknown code placed late old free among = and_false (not (late && is_some old.gone_after))

new_fits : (code : Code) (placed : List Place) (late : Bool) (cards : List Slot) (new old : Place) → GoneWithin placed → list_any (is_taken code placed late) cards ≡ false → IsDealt late (length placed) cards new → IsAmong placed old → is_clash new old ≡ false
new_fits code placed late cards new old within free is among =
    let not_mine : may_repeat old new ≡ false = ap (λ g. old.past_deck && is_gone_before g old.number) is.gone_after ∙ and_false old.past_deck in
    let repeats : may_repeat new old ≡ (late && is_gone_before old.gone_after new.number) = ap (λ l. l && is_gone_before old.gone_after new.number) is.past_deck in
    let same : (late && is_some old.gone_after) ≡ may_repeat new old = repeats_late late old.gone_after (length placed) new.number (within old among) is.number ∙ sym repeats in
    let apart : (not (late && is_some old.gone_after) && is_one_card new.slot old.slot) ≡ false = not_taken new.slot code placed late old (not_one_of (is_taken code placed late) cards new.slot free is.slot) among in
    without_own (may_repeat new old) (may_repeat old new) (is_one_card new.slot old.slot) not_mine (sym (ap (λ m. not m && is_one_card new.slot old.slot) same) ∙ apart)

pub among_append : (xs ys : List Place) (place : Place) → IsAmong (xs ++ ys) place → IsAmong xs place ⊎ IsAmong ys place
among_append [] ys place among = inr among
among_append (first ∷ rest) ys place (inl is) = inl (inl is)
among_append (first ∷ rest) ys place (inr later) = elim (among_append rest ys place later) [ inl here ↦ inl (inr here) | inr there ↦ inr there ]

pub deal_none_clash : (code : Code) (owner : Option ℕ) (street : ℕ) (cards : List Slot) (placed : List Place) → GoneWithin placed → has_taken_card code placed street cards ≡ false → NoneClash placed → NoneClash (after_deal code owner street cards placed)
deal_none_clash code owner street cards placed within free none a b in_a in_b differ =
    let late : Bool = is_past_deck code placed street in
    let index : ℕ = count_by (is_in_group owner street) placed in
    let news : List Place = places_dealt owner street late index (length placed) cards in
    let parts = or_parts (list_any (is_taken code placed late) cards) (has_repeat cards) free in
    elim (among_append placed news a in_a) [
      | inl old_a ↦ elim (among_append placed news b in_b) [
        | inl old_b ↦ none a b old_a old_b differ
        | inr new_b ↦ clash_both a b ∙ new_fits code placed late cards b a within parts.0 (are_dealt owner street late index (length placed) cards b new_b) old_a
      ]
      | inr new_a ↦ elim (among_append placed news b in_b) [
        | inl old_b ↦ new_fits code placed late cards a b within parts.0 (are_dealt owner street late index (length placed) cards a new_a) old_b
        | inr new_b ↦ dealt_apart owner street late index (length placed) cards parts.1 a b new_a new_b differ
      ]
    ]
