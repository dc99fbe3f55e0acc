-- A show of all cards that a seat holds, if they are known, takes them all and leaves the places
-- unchanged.
use Rattle.std.proofs.Common.{◌≡◌, ℕ, suc, ◌+◌, Bool, true, false, ◌&&◌, inl, inr, List, [], ◌∷◌, map, filter, length, count_by, refl, sym, ◌∙◌, ap, arith, if◌then◌else◌}
use Rattle.std.specs.List.{list_any}
use Rattle.std.proofs.lemmas.Bool.{and_parts, or_from, le-ltb, eq-eqb, both_ways, false_from_ne_true, not_from_true}
use Rattle.std.proofs.lemmas.List.{length-map}
use Rattle.std.proofs.lemmas.List.Sums.{length-filter}
use Rattle.card_set.specs.declared.card.Card.{Card}
use Rattle.card_set.specs.declared.card.Slot.{Slot}
use Rattle.card_set.specs.declared.card.Slot.TheVariants as slots
use Rattle.play_event.specs.declared.code.Code.{Code}
use Rattle.play_event.specs.Said as said
use Rattle.card_set.specs.Known.{hides_card, known_among}
use Rattle.play_event.specs.Places.{Place, is_held_by}
use Rattle.play_event.specs.NameMatching.{unmatched_names, is_named, after_matching, after_show, held_count, can_be_named, is_show_of_all}
use Rattle.play_event.specs.Taken.{newly_known, has_misplaced_card, is_misplaced}
use Rattle.play_event.specs.CardReasons.{has_no_place, is_show_of_others, is_left_out, is_not_held}
use Rattle.play_event.specs.Laws.{IsAmong}
use Rattle.card_set.proofs.Tests.{false_true}
use Rattle.canon_laws.proofs.MatchedNames.{slots_taken, names_taken, blanks_taken, marked_if, BlanksFirst, IsMatched, is_matched, taken_is_named}
use Rattle.canon_laws.proofs.CleanDiscard.{none_known}
use Rattle.play_laws.proofs.FittingMoves.{same_filter}
use Rattle.play_laws.proofs.PlaceGroups.{passed}
use Rattle.play_event.proofs.ClashLaws.{IsOneOf}

-- the cards that a seat holds are known
abbrev pub HoldsKnown : ℕ → List Place → Type 0
HoldsKnown seat placed = (place : Place) → IsAmong placed place → is_held_by seat place ≡ true → hides_card place.slot ≡ false

-- the cards that it shows
abbrev pub held_cards : ℕ → List Place → List Card
held_cards seat placed = names_taken (is_held_by seat) placed

-- if all slots are known there are as many cards
pub known_length : (list : List Slot) → ((slot : Slot) → IsOneOf list slot → hides_card slot ≡ false) → length (known_among list) ≡ length list
known_length [] known = refl
known_length (slots.Known card ∷ rest) known = ap suc (known_length rest (λ slot among. known slot (inr among)))
known_length (slots.Unknown ∷ rest) known = false_true (sym (known slots.Unknown (inl refl)))

-- a slot of places is that of one of them
pub one_of_map : (placed : List Place) (slot : Slot) → IsOneOf (map (λ (p : Place). p.slot) placed) slot → (place : Place) × (IsAmong placed place × (place.slot ≡ slot))
one_of_map [] slot among = absurd among
one_of_map (first ∷ rest) slot (inl same) = (first, (inl refl, same))
one_of_map (first ∷ rest) slot (inr later) = let it = one_of_map rest slot later in (it.0, (inr it.1.0, it.1.1))

held_length : (seat : ℕ) (placed : List Place) → HoldsKnown seat placed → length (held_cards seat placed) ≡ held_count placed seat
held_length seat placed known =
    known_length (slots_taken (is_held_by seat) placed) (λ slot among.
    let it = one_of_map (filter (is_held_by seat) placed) slot among in
    let place = passed (is_held_by seat) placed it.0 it.1.0 in
    ap hides_card (sym it.1.1) ∙ known it.0 place.among place.passes)
    ∙ length-map (filter (is_held_by seat) placed) (λ (p : Place). p.slot)
    ∙ length-filter (is_held_by seat) placed

-- what a show of all cards applies to
abbrev covers_all : ℕ → Place → Bool
covers_all seat place = is_held_by seat place && true

covers_held : (seat : ℕ) (place : Place) → covers_all seat place ≡ is_held_by seat place
covers_held seat place = and_true (is_held_by seat place)
  where
    and_true : (b : Bool) → (b && true) ≡ b
    and_true true = refl
    and_true false = refl

same_cards : (seat : ℕ) (placed : List Place) → names_taken (covers_all seat) placed ≡ held_cards seat placed
same_cards seat placed = ap (λ l. known_among (map (λ (p : Place). p.slot) l)) (same_filter (covers_all seat) (is_held_by seat) placed (λ place among. covers_held seat place))

no_blank : (seat : ℕ) (placed : List Place) → HoldsKnown seat placed → blanks_taken (covers_all seat) placed ≡ 0
no_blank seat [] known = refl
no_blank seat (place ∷ rest) known =
    ap (λ b. if b then suc (blanks_taken (covers_all seat) rest) else blanks_taken (covers_all seat) rest)
    (false_from_ne_true (covers_all seat place && hides_card place.slot) (λ both. let parts = and_parts (covers_all seat place) (hides_card place.slot) both in both_ways (hides_card place.slot) (known place (inl refl) (sym (covers_held seat place) ∙ parts.0)) parts.1))
    ∙ no_blank seat rest (λ other among. known other (inr among))

blanks_never : (covers : Place → Bool) (placed : List Place) → BlanksFirst covers covers placed
blanks_never covers [] = tt
blanks_never covers (place ∷ rest) = ((λ covered unknown not_taken. absurd (both_ways (covers place) not_taken covered)), blanks_never covers rest)

unmarked : (taken : Place → Bool) (placed : List Place) → map (marked_if taken (λ place. place)) placed ≡ placed
unmarked taken [] = refl
unmarked taken (place ∷ rest) = ap (λ p. p ∷ map (marked_if taken (λ (q : Place). q)) rest) (one (taken place)) ∙ ap (λ l. place ∷ l) (unmarked taken rest)
  where
    one : (b : Bool) → (if b then place else place) ≡ place
    one true = refl
    one false = refl

none_left_out : (names : List Card) (places : List Place) → ((place : Place) (card : Card) → IsAmong places place → place.slot ≡ slots.Known card → is_named card names ≡ true) → list_any (λ (place : Place). is_left_out names place.slot) places ≡ false
none_left_out names [] named = refl
none_left_out names (place ∷ rest) named =
    or_from (is_left_out names place.slot) (list_any (λ (p : Place). is_left_out names p.slot) rest) (by_slot place.slot refl) (none_left_out names rest (λ other card among here. named other card (inr among) here))
  where
    by_slot : (slot : Slot) → place.slot ≡ slot → is_left_out names slot ≡ false
    by_slot slots.Unknown here = refl
    by_slot (slots.Known card) here = not_from_true (is_named card names) (named place card (inl refl) here)

-- a show of all cards that a seat holds
pub record IsCleanShow (code : Code) (seat : ℕ) (placed : List Place) : Type 0 where
  pub count : length (held_cards seat placed) ≡ held_count placed seat
  pub after : after_show code seat (held_cards seat placed) placed ≡ placed
  pub free : has_misplaced_card code placed (after_show code seat (held_cards seat placed) placed) ≡ false
  pub held : is_not_held code placed (said.Show seat (held_cards seat placed)) ≡ false

-- a show of all known cards of a seat changes nothing
pub clean_show : (code : Code) (seat : ℕ) (placed : List Place) → HoldsKnown seat placed → IsCleanShow code seat placed
clean_show code seat placed known =
    let covers : Place → Bool = covers_all seat in
    let names : List Card = held_cards seat placed in
    let count = held_length seat placed known in
    let all : is_show_of_all placed seat names ≡ true = eq-eqb (length names) (held_count placed seat) count in
    let matched : IsMatched covers covers (λ place. place) placed = is_matched covers covers (λ place. place) placed (λ place is. is) (λ a b in_a in_b one two same. one ∙ sym two) (blanks_never covers placed) in
    let C : Bool → Place → Bool = can_be_named code seat in
    let after : after_show code seat names placed ≡ placed =
    ap (λ b. after_matching (C b) (λ (p : Place). p) names (unmatched_names (filter (C b) placed) names) 0 placed) all
    ∙ ap (λ n. after_matching covers (λ (p : Place). p) names (unmatched_names (filter covers placed) names) n placed) (sym (no_blank seat placed known))
    ∙ ap (λ l. after_matching covers (λ (p : Place). p) l (unmatched_names (filter covers placed) l) (blanks_taken covers placed) placed) (sym (same_cards seat placed))
    ∙ matched.marked ∙ unmarked covers placed in
    let none_left : unmatched_names (filter covers placed) names ≡ [] = ap (unmatched_names (filter covers placed)) (sym (same_cards seat placed)) ∙ matched.none_left in
    let no_new : newly_known placed placed ≡ [] = ap (newly_known placed) (sym (unmarked covers placed)) ∙ none_known covers (λ place. place) placed (λ place. refl) in
    record {
      count = count;
      after = after;
      free = ap (has_misplaced_card code placed) after ∙ ap (list_any (is_misplaced code placed)) no_new;
      held = ap (λ b. is_show_of_others (filter (C b) placed) names) all
          ∙ or_from (has_no_place (filter covers placed) names 0) (list_any (λ place. is_left_out names place.slot) (filter covers placed))
          (le-ltb (count_by (λ (place : Place). hides_card place.slot) (filter covers placed)) (length (unmatched_names (filter covers placed) names) + 0) (omega (arith, ap (λ (l : List Card). length l) none_left)))
          (none_left_out names (filter covers placed) (λ place card among here.
          let it = passed covers placed place among in
          taken_is_named (is_held_by seat) card placed place it.among here (sym (covers_held seat place) ∙ it.passes)));
    }
