-- A discard that names some of the cards that a seat holds, as they are known, takes just these; a
-- show of all cards that a seat holds takes them all and leaves the places unchanged.
use Rattle.std.proofs.Common.{◌≡◌, ℕ, suc, ◌+◌, ◌≤◌, Bool, true, false, ◌&&◌, not, nat_lt, List, [], ◌∷◌, map, filter, length, count_by, refl, sym, ◌∙◌, ap, arith, if◌then◌else◌}
use Rattle.std.specs.List.{list_any}
use Rattle.std.proofs.lemmas.Bool.{le-ltb}
use Rattle.std.proofs.lemmas.List.Sums.{length-filter}
use Rattle.card_set.specs.declared.card.Card.{Card}
use Rattle.card_set.specs.declared.card.Slot.{Slot}
use Rattle.card_set.specs.declared.card.Slot.TheVariants as slots
use Rattle.play_event.specs.declared.code.Code.{Code}
use Rattle.card_set.specs.Known.{hides_card}
use Rattle.play_event.specs.Places.{Place, is_held_by}
use Rattle.play_event.specs.NameMatching.{unmatched_names, blanks_in, after_matching, after_discard, discarded_now, held_count}
use Rattle.play_event.specs.Taken.{newly_known, has_misplaced_card, is_misplaced}
use Rattle.play_event.specs.CardReasons.{has_no_place}
use Rattle.card_set.proofs.Tests.{and_not, false_true}
use Rattle.canon_laws.proofs.MatchedNames.{slots_taken, names_taken, blanks_taken, marked_if, BlanksFirst, TakenTogether, IsMatched, is_matched}

-- counts by the length of what is kept
blanks_step : (taken : Place → Bool) (place : Place) (rest : List Place) (slot : Slot) (t : Bool) → place.slot ≡ slot → length (filter hides_card (slots_taken taken rest)) ≡ blanks_taken taken rest → length (filter hides_card (map (λ (place : Place). place.slot) (if t then (place ∷ filter taken rest) else filter taken rest))) ≡ (if t && hides_card slot then suc (blanks_taken taken rest) else blanks_taken taken rest)
blanks_step taken place rest slot false here later = later
blanks_step taken place rest slots.Unknown true here later = ap (λ s. length (filter hides_card (s ∷ slots_taken taken rest))) here ∙ ap suc later
blanks_step taken place rest (slots.Known card) true here later = ap (λ s. length (filter hides_card (s ∷ slots_taken taken rest))) here ∙ later

blanks_length : (taken : Place → Bool) (placed : List Place) → length (filter hides_card (slots_taken taken placed)) ≡ blanks_taken taken placed
blanks_length taken [] = refl
blanks_length taken (place ∷ rest) = blanks_step taken place rest place.slot (taken place) refl (blanks_length taken rest)

-- the blanks among what is taken
pub blanks_same : (taken : Place → Bool) (placed : List Place) → blanks_in (slots_taken taken placed) ≡ blanks_taken taken placed
blanks_same taken placed = sym (length-filter hides_card (slots_taken taken placed)) ∙ blanks_length taken placed

-- there are enough unknown covered places
fewer_step : (covers taken : Place → Bool) (place : Place) (rest : List Place) (slot : Slot) (c t : Bool) → place.slot ≡ slot → (t ≡ true → c ≡ true) → blanks_taken taken rest ≤ length (filter (λ (place : Place). hides_card place.slot) (filter covers rest)) → (if t && hides_card slot then suc (blanks_taken taken rest) else blanks_taken taken rest) ≤ length (filter (λ (place : Place). hides_card place.slot) (if c then (place ∷ filter covers rest) else filter covers rest))
fewer_step covers taken place rest slot false true here sub later = false_true (sub refl)
fewer_step covers taken place rest slot false false here sub later = later
fewer_step covers taken place rest (slots.Known card) true true here sub later =
    omega (arith, later, ap (λ s. length (if hides_card s then (place ∷ filter (λ (place : Place). hides_card place.slot) (filter covers rest)) else filter (λ (place : Place). hides_card place.slot) (filter covers rest))) here)
fewer_step covers taken place rest (slots.Known card) true false here sub later =
    omega (arith, later, ap (λ s. length (if hides_card s then (place ∷ filter (λ (place : Place). hides_card place.slot) (filter covers rest)) else filter (λ (place : Place). hides_card place.slot) (filter covers rest))) here)
fewer_step covers taken place rest slots.Unknown true true here sub later =
    omega (arith, later, ap (λ s. length (if hides_card s then (place ∷ filter (λ (place : Place). hides_card place.slot) (filter covers rest)) else filter (λ (place : Place). hides_card place.slot) (filter covers rest))) here)
fewer_step covers taken place rest slots.Unknown true false here sub later =
    omega (arith, later, ap (λ s. length (if hides_card s then (place ∷ filter (λ (place : Place). hides_card place.slot) (filter covers rest)) else filter (λ (place : Place). hides_card place.slot) (filter covers rest))) here)

fewer_blanks : (covers taken : Place → Bool) (placed : List Place) → ((place : Place) → taken place ≡ true → covers place ≡ true) → blanks_taken taken placed ≤ length (filter (λ (place : Place). hides_card place.slot) (filter covers placed))
fewer_blanks covers taken [] sub = omega arith
fewer_blanks covers taken (place ∷ rest) sub = fewer_step covers taken place rest place.slot (covers place) (taken place) refl (sub place) (fewer_blanks covers taken rest sub)

-- and enough covered places
count_step : (covers taken : Place → Bool) (place : Place) (rest : List Place) (c t : Bool) → (t ≡ true → c ≡ true) → length (slots_taken taken rest) ≤ length (filter covers rest) → length (map (λ (place : Place). place.slot) (if t then (place ∷ filter taken rest) else filter taken rest)) ≤ length (if c then (place ∷ filter covers rest) else filter covers rest)
count_step covers taken place rest false true sub later = false_true (sub refl)
count_step covers taken place rest false false sub later = later
count_step covers taken place rest true false sub later = omega (arith, later)
count_step covers taken place rest true true sub later = omega (arith, later)

fewer_taken : (covers taken : Place → Bool) (placed : List Place) → ((place : Place) → taken place ≡ true → covers place ≡ true) → length (slots_taken taken placed) ≤ length (filter covers placed)
fewer_taken covers taken [] sub = omega arith
fewer_taken covers taken (place ∷ rest) sub = count_step covers taken place rest (covers place) (taken place) (sub place) (fewer_taken covers taken rest sub)

marked_slot : (taken : Place → Bool) (mark : Place → Place) (place : Place) (t : Bool) → (mark place).slot ≡ place.slot → (if t then mark place else place).slot ≡ place.slot
marked_slot taken mark place true same = same
marked_slot taken mark place false same = refl

-- a discard by known names makes no other card known
pub none_known : (taken : Place → Bool) (mark : Place → Place) (placed : List Place) → ((place : Place) → (mark place).slot ≡ place.slot) → newly_known placed (map (marked_if taken mark) placed) ≡ []
none_known taken mark [] same = refl
none_known taken mark (place ∷ rest) same =
    ap (λ s. if hides_card place.slot && not (hides_card s) then (marked_if taken mark place ∷ newly_known rest (map (marked_if taken mark) rest)) else newly_known rest (map (marked_if taken mark) rest)) (marked_slot taken mark place (taken place) (same place))
    ∙ (ap (λ b. if b then (marked_if taken mark place ∷ newly_known rest (map (marked_if taken mark) rest)) else newly_known rest (map (marked_if taken mark) rest)) (and_not (hides_card place.slot))
    ∙ none_known taken mark rest same)

-- a discard of some of the cards that a seat holds
pub record IsCleanDiscard (code : Code) (street seat : ℕ) (taken : Place → Bool) (placed : List Place) : Type 0 where
  pub after : after_discard street seat (slots_taken taken placed) placed ≡ map (marked_if taken (discarded_now street (length placed))) placed
  pub count : nat_lt (held_count placed seat) (length (slots_taken taken placed)) ≡ false
  pub free : has_misplaced_card code placed (after_discard street seat (slots_taken taken placed) placed) ≡ false
  pub held : has_no_place (filter (is_held_by seat) placed) (names_taken taken placed) (blanks_in (slots_taken taken placed)) ≡ false

-- a discard that names what it takes, as it is known, takes just this
pub clean_discard : (code : Code) (street seat : ℕ) (taken : Place → Bool) (placed : List Place) → ((place : Place) → taken place ≡ true → is_held_by seat place ≡ true) → TakenTogether (is_held_by seat) taken placed → BlanksFirst (is_held_by seat) taken placed → IsCleanDiscard code street seat taken placed
clean_discard code street seat taken placed sub together first =
    let covers : Place → Bool = is_held_by seat in
    let mark : Place → Place = discarded_now street (length placed) in
    let matched : IsMatched covers taken mark placed = is_matched covers taken mark placed sub together first in
    let after : after_discard street seat (slots_taken taken placed) placed ≡ map (marked_if taken mark) placed =
    ap (λ n. after_matching covers mark (names_taken taken placed) (unmatched_names (filter covers placed) (names_taken taken placed)) n placed) (blanks_same taken placed) ∙ matched.marked in
    record {
      after = after;
      count = le-ltb (held_count placed seat) (length (slots_taken taken placed)) (omega (arith, fewer_taken covers taken placed sub, length-filter covers placed));
      free = ap (has_misplaced_card code placed) after ∙ ap (list_any (λ (place : Place). is_misplaced code (map (marked_if taken mark) placed) place)) (none_known taken mark placed (λ place. refl));
      held = le-ltb (count_by (λ (place : Place). hides_card place.slot) (filter covers placed)) (length (unmatched_names (filter covers placed) (names_taken taken placed)) + blanks_in (slots_taken taken placed))
          (omega (arith, ap (λ (l : List Card). length l) matched.none_left, blanks_same taken placed, fewer_blanks covers taken placed sub, length-filter (λ (place : Place). hides_card place.slot) (filter covers placed)));
    }
