-- Names of some of the places that an event applies to mark just these places.
use Rattle.std.proofs.Common.{◌≡◌, ℕ, zero, suc, Bool, true, false, ◌&&◌, ◌||◌, inl, inr, List, [], ◌∷◌, map, filter, refl, sym, ◌∙◌, ap, arith, if◌then◌else◌}
use Rattle.std.proofs.lemmas.Bool.{false_from_ne_true, or_cases, or_right}
use Rattle.card_set.specs.declared.card.Card.{Card}
use Rattle.card_set.specs.declared.card.Slot.{Slot}
use Rattle.card_set.specs.declared.card.Slot.TheVariants as slots
use Rattle.card_set.specs.Deck.{is_same_card}
use Rattle.card_set.specs.Known.{hides_card, known_among}
use Rattle.play_event.specs.Places.{Place}
use Rattle.play_event.specs.NameMatching.{without_name, unmatched_names, is_named, matched_card, after_matching}
use Rattle.play_event.specs.Taken.{is_one_card}
use Rattle.play_event.specs.Laws.{IsAmong}
use Rattle.card_set.proofs.Tests.{false_true}
use Rattle.play_laws.proofs.NamedCounts.{keep_length}
use Rattle.card_set.proofs.DeckLaws.{is_same_card-self}

-- the cards of the places that are taken
abbrev pub slots_taken : (Place → Bool) → List Place → List Slot
slots_taken taken placed = map (λ place. place.slot) (filter taken placed)

-- the known cards among what is taken
abbrev pub names_taken : (Place → Bool) → List Place → List Card
names_taken taken placed = known_among (slots_taken taken placed)

-- the number of unknown ones
abbrev pub blanks_taken : (Place → Bool) → List Place → ℕ
blanks_taken taken [] = 0
blanks_taken taken (place ∷ rest) = if taken place && hides_card place.slot then suc (blanks_taken taken rest) else blanks_taken taken rest

-- a place is marked if it is taken
abbrev pub marked_if : (Place → Bool) → (Place → Place) → Place → Place
marked_if taken mark place = if taken place then mark place else place

-- after an unknown covered place that is not taken, no unknown one is taken
abbrev pub BlanksFirst : (covers taken : Place → Bool) → List Place → Type 0
BlanksFirst covers taken [] = Unit {0}
BlanksFirst covers taken (place ∷ rest) =
    (covers place ≡ true → hides_card place.slot ≡ true → taken place ≡ false → blanks_taken taken rest ≡ 0) × BlanksFirst covers taken rest

-- covered known places are taken if their card is named
abbrev pub NamedWhereTaken : (covers taken : Place → Bool) → List Card → List Place → Type 0
NamedWhereTaken covers taken names placed = (place : Place) (card : Card) → IsAmong placed place → place.slot ≡ slots.Known card → covers place ≡ true → is_named card names ≡ taken place

marked_at : (covers taken : Place → Bool) (mark : Place → Place) (names : List Card) (place : Place) (rest : List Place) (slot : Slot) (c t : Bool) (blanks : ℕ)
    → (t ≡ true → c ≡ true) → ((card : Card) → slot ≡ slots.Known card → c ≡ true → is_named card names ≡ t) → (c ≡ true → hides_card slot ≡ true → t ≡ false → blanks ≡ 0)
    → after_matching covers mark names [] blanks rest ≡ map (marked_if taken mark) rest
    → (if c then (let found = matched_card mark names slot [] (if t && hides_card slot then suc blanks else blanks) place in found.place ∷ after_matching covers mark names found.others found.blanks rest) else (place ∷ after_matching covers mark names [] (if t && hides_card slot then suc blanks else blanks) rest))
    ≡ (if t then mark place else place) ∷ map (marked_if taken mark) rest
marked_at covers taken mark names place rest slot false true blanks sub named first later = false_true (sub refl)
marked_at covers taken mark names place rest slot false false blanks sub named first later = ap (λ l. place ∷ l) later
marked_at covers taken mark names place rest (slots.Known card) true true blanks sub named first later =
    ap (λ b. (if b then mark place else place) ∷ after_matching covers mark names [] blanks rest) (named card refl refl) ∙ ap (λ l. mark place ∷ l) later
marked_at covers taken mark names place rest (slots.Known card) true false blanks sub named first later =
    ap (λ b. (if b then mark place else place) ∷ after_matching covers mark names [] blanks rest) (named card refl refl) ∙ ap (λ l. place ∷ l) later
marked_at covers taken mark names place rest slots.Unknown true true blanks sub named first later = ap (λ l. mark place ∷ l) later
marked_at covers taken mark names place rest slots.Unknown true false zero sub named first later = ap (λ l. place ∷ l) later
marked_at covers taken mark names place rest slots.Unknown true false (suc blanks) sub named first later = absurd (no_more blanks (first refl refl refl))
  where
    no_more : (n : ℕ) → suc n ≡ 0 → ⊥
    no_more n is = omega (arith, is)

-- names that are those of the taken places, with nothing left over, mark just these
pub names_mark : (covers taken : Place → Bool) (mark : Place → Place) (names : List Card) (placed : List Place) → ((place : Place) → taken place ≡ true → covers place ≡ true) → NamedWhereTaken covers taken names placed → BlanksFirst covers taken placed → after_matching covers mark names [] (blanks_taken taken placed) placed ≡ map (marked_if taken mark) placed
names_mark covers taken mark names [] sub named first = refl
names_mark covers taken mark names (place ∷ rest) sub named first =
    marked_at covers taken mark names place rest place.slot (covers place) (taken place) (blanks_taken taken rest) (sub place) (λ card is here. named place card (inl refl) is here) first.0
    (names_mark covers taken mark names rest sub (λ other card among is here. named other card (inr among) is here) first.1)

-- if covered places with the same card are taken together, the names are found
abbrev pub TakenTogether : (covers taken : Place → Bool) → List Place → Type 0
TakenTogether covers taken placed = (a b : Place) → IsAmong placed a → IsAmong placed b → covers a ≡ true → covers b ≡ true → is_one_card a.slot b.slot ≡ true → taken a ≡ taken b

-- a card that is named is that of a taken place
pub record BearsName (taken : Place → Bool) (card : Card) (placed : List Place) : Type 0 where
  pub place : Place
  pub among : IsAmong placed place
  pub is_taken : taken place ≡ true
  pub slot_is_card : is_one_card (slots.Known card) place.slot ≡ true

bears_later : (taken : Place → Bool) (card : Card) (first : Place) (rest : List Place) → BearsName taken card rest → BearsName taken card (first ∷ rest)
bears_later taken card first rest it = record { place = it.place; among = inr it.among; is_taken = it.is_taken; slot_is_card = it.slot_is_card }

bears_one : (taken : Place → Bool) (card : Card) (first : Place) (rest : List Place) (slot : Slot) (b : Bool) → first.slot ≡ slot → taken first ≡ true → is_one_card (slots.Known card) slot ≡ b → b ≡ true → BearsName taken card (first ∷ rest)
bears_one taken card first rest slot b here is same one = record { place = first; among = inl refl; is_taken = is; slot_is_card = ap (is_one_card (slots.Known card)) here ∙ same ∙ one }

named_at : (taken : Place → Bool) (card : Card) (first : Place) (rest : List Place) (slot : Slot) (t : Bool) → first.slot ≡ slot → taken first ≡ t → (is_named card (names_taken taken rest) ≡ true → BearsName taken card rest) → is_named card (known_among (map (λ (place : Place). place.slot) (if t then (first ∷ filter taken rest) else filter taken rest))) ≡ true → BearsName taken card (first ∷ rest)
named_at taken card first rest slot false here is later named = bears_later taken card first rest (later named)
named_at taken card first rest slots.Unknown true here is later named =
    bears_later taken card first rest (later (sym (ap (λ s. is_named card (known_among (s ∷ slots_taken taken rest))) here) ∙ named))
named_at taken card first rest (slots.Known other) true here is later named = elim (or_cases (is_same_card card other) (is_named card (names_taken taken rest)) (sym (ap (λ s. is_named card (known_among (s ∷ slots_taken taken rest))) here) ∙ named)) [
  | inl same ↦ bears_one taken card first rest (slots.Known other) (is_same_card card other) here is refl same
  | inr more ↦ bears_later taken card first rest (later more)
]

-- a card is named if a place that is taken has it
pub is_named_by : (taken : Place → Bool) (card : Card) (placed : List Place) → is_named card (names_taken taken placed) ≡ true → BearsName taken card placed
is_named_by taken card [] named = false_true named
is_named_by taken card (first ∷ rest) named = named_at taken card first rest first.slot (taken first) refl refl (is_named_by taken card rest) named

-- and the card of a taken place is named
named_first : (taken : Place → Bool) (card : Card) (first : Place) (rest : List Place) (t : Bool) → first.slot ≡ slots.Known card → t ≡ true → is_named card (known_among (map (λ (place : Place). place.slot) (if t then (first ∷ filter taken rest) else filter taken rest))) ≡ true
named_first taken card first rest false here is = false_true is
named_first taken card first rest true here is =
    ap (λ s. is_named card (known_among (s ∷ slots_taken taken rest))) here ∙ ap (λ b. b || is_named card (names_taken taken rest)) (is_same_card-self card)

named_still : (taken : Place → Bool) (card : Card) (first : Place) (rest : List Place) (slot : Slot) (t : Bool) → first.slot ≡ slot → is_named card (names_taken taken rest) ≡ true → is_named card (known_among (map (λ (place : Place). place.slot) (if t then (first ∷ filter taken rest) else filter taken rest))) ≡ true
named_still taken card first rest slot false here is = is
named_still taken card first rest slots.Unknown true here is = ap (λ s. is_named card (known_among (s ∷ slots_taken taken rest))) here ∙ is
named_still taken card first rest (slots.Known other) true here is =
    ap (λ s. is_named card (known_among (s ∷ slots_taken taken rest))) here ∙ or_right (is_same_card card other) (is_named card (names_taken taken rest)) is

-- a known card that is taken is named
pub taken_is_named : (taken : Place → Bool) (card : Card) (placed : List Place) (place : Place) → IsAmong placed place → place.slot ≡ slots.Known card → taken place ≡ true → is_named card (names_taken taken placed) ≡ true
taken_is_named taken card [] place among here is = absurd among
taken_is_named taken card (first ∷ rest) place (inl same) here is = named_first taken card first rest (taken first) (ap (λ (p : Place). p.slot) same ∙ here) (ap taken same ∙ is)
taken_is_named taken card (first ∷ rest) place (inr later) here is = named_still taken card first rest first.slot (taken first) refl (taken_is_named taken card rest place later here is)

-- so names are found if covered places with the same card are taken together
named_or_not : (taken : Place → Bool) (card : Card) (placed : List Place) (place : Place) (n t : Bool) → is_named card (names_taken taken placed) ≡ n → taken place ≡ t → (is_named card (names_taken taken placed) ≡ true → taken place ≡ true) → (taken place ≡ true → is_named card (names_taken taken placed) ≡ true) → n ≡ t
named_or_not taken card placed place true true n t there back = refl
named_or_not taken card placed place false false n t there back = refl
named_or_not taken card placed place true false n t there back = false_true (sym t ∙ there n)
named_or_not taken card placed place false true n t there back = false_true (sym n ∙ back t)

named_is_taken : (covers taken : Place → Bool) (card : Card) (placed : List Place) (place : Place) → ((other : Place) → taken other ≡ true → covers other ≡ true) → TakenTogether covers taken placed → IsAmong placed place → place.slot ≡ slots.Known card → covers place ≡ true → is_named card (names_taken taken placed) ≡ true → taken place ≡ true
named_is_taken covers taken card placed place sub together among here covered named =
    let it = is_named_by taken card placed named in
    together place it.place among it.among covered (sub it.place it.is_taken) (ap (λ s. is_one_card s it.place.slot) here ∙ it.slot_is_card) ∙ it.is_taken

-- of covered places just those that are taken are named
pub named_where_taken : (covers taken : Place → Bool) (placed : List Place) → ((other : Place) → taken other ≡ true → covers other ≡ true) → TakenTogether covers taken placed → NamedWhereTaken covers taken (names_taken taken placed) placed
named_where_taken covers taken placed sub together place card among here covered =
    named_or_not taken card placed place (is_named card (names_taken taken placed)) (taken place) refl refl (named_is_taken covers taken card placed place sub together among here covered) (taken_is_named taken card placed place among here)

-- after a covered known place that is not taken, its card is not named
abbrev pub Apart : (covers taken : Place → Bool) → List Place → Type 0
Apart covers taken [] = Unit {0}
Apart covers taken (place ∷ rest) = ((card : Card) → place.slot ≡ slots.Known card → covers place ≡ true → taken place ≡ false → is_named card (names_taken taken rest) ≡ false) × Apart covers taken rest

apart : (covers taken : Place → Bool) (placed : List Place) → ((other : Place) → taken other ≡ true → covers other ≡ true) → TakenTogether covers taken placed → Apart covers taken placed
apart covers taken [] sub together = tt
apart covers taken (place ∷ rest) sub together = (
  λ card here covered not_taken. false_from_ne_true (is_named card (names_taken taken rest)) (λ named.
      let it = is_named_by taken card rest named in
      false_true (sym not_taken ∙ (together place it.place (inl refl) (inr it.among) covered (sub it.place it.is_taken) (ap (λ s. is_one_card s it.place.slot) here ∙ it.slot_is_card) ∙ it.is_taken))),
  apart covers taken rest sub (λ a b in_a in_b. together a b (inr in_a) (inr in_b)),
)

left_at : (covers taken : Place → Bool) (place : Place) (rest : List Place) (slot : Slot) (c t : Bool) → place.slot ≡ slot → (t ≡ true → c ≡ true) → ((card : Card) → slot ≡ slots.Known card → c ≡ true → t ≡ false → is_named card (names_taken taken rest) ≡ false) → unmatched_names (filter covers rest) (names_taken taken rest) ≡ []
    → unmatched_names (if c then (place ∷ filter covers rest) else filter covers rest) (known_among (map (λ (place : Place). place.slot) (if t then (place ∷ filter taken rest) else filter taken rest))) ≡ []
left_at covers taken place rest slot false true here sub free later = false_true (sub refl)
left_at covers taken place rest slot false false here sub free later = later
left_at covers taken place rest slots.Unknown true true here sub free later =
    ap (λ s. unmatched_names (filter covers rest) (without_name s (known_among (s ∷ slots_taken taken rest)))) here ∙ later
left_at covers taken place rest slots.Unknown true false here sub free later = ap (λ s. unmatched_names (filter covers rest) (without_name s (names_taken taken rest))) here ∙ later
left_at covers taken place rest (slots.Known card) true true here sub free later =
    ap (λ s. unmatched_names (filter covers rest) (without_name s (known_among (s ∷ slots_taken taken rest)))) here
    ∙ ap (λ b. unmatched_names (filter covers rest) (if b then names_taken taken rest else (card ∷ without_name (slots.Known card) (names_taken taken rest)))) (is_same_card-self card) ∙ later
left_at covers taken place rest (slots.Known card) true false here sub free later =
    ap (λ s. unmatched_names (filter covers rest) (without_name s (names_taken taken rest))) here
    ∙ ap (unmatched_names (filter covers rest)) (keep_length card (names_taken taken rest) (free card refl refl refl)) ∙ later

none_left : (covers taken : Place → Bool) (placed : List Place) → ((other : Place) → taken other ≡ true → covers other ≡ true) → Apart covers taken placed → unmatched_names (filter covers placed) (names_taken taken placed) ≡ []
none_left covers taken [] sub free = refl
none_left covers taken (place ∷ rest) sub free =
    left_at covers taken place rest place.slot (covers place) (taken place) refl (sub place) free.0 (none_left covers taken rest sub free.1)

-- the names of the taken places mark just these, and no name is left over
pub record IsMatched (covers taken : Place → Bool) (mark : Place → Place) (placed : List Place) : Type 0 where
  pub marked : after_matching covers mark (names_taken taken placed) (unmatched_names (filter covers placed) (names_taken taken placed)) (blanks_taken taken placed) placed ≡ map (marked_if taken mark) placed
  pub none_left : unmatched_names (filter covers placed) (names_taken taken placed) ≡ []

-- names of what is taken mark just this
pub is_matched : (covers taken : Place → Bool) (mark : Place → Place) (placed : List Place) → ((other : Place) → taken other ≡ true → covers other ≡ true) → TakenTogether covers taken placed → BlanksFirst covers taken placed → IsMatched covers taken mark placed
is_matched covers taken mark placed sub together first =
    let nothing = none_left covers taken placed sub (apart covers taken placed sub together) in
    record {
      marked = ap (λ others. after_matching covers mark (names_taken taken placed) others (blanks_taken taken placed) placed) nothing
          ∙ names_mark covers taken mark (names_taken taken placed) placed sub (named_where_taken covers taken placed sub together) first;
      none_left = nothing;
    }
