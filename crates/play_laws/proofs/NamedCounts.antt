-- A discard takes as many places as it names.
use Rattle.std.proofs.Common.{◌≡◌, ℕ, zero, suc, ◌+◌, ◌≤◌, Bool, true, false, ◌||◌, inl, inr, List, [], ◌∷◌, filter, length, count_by, refl, sym, ◌∙◌, ap, arith, if◌then◌else◌}
use Rattle.std.proofs.lemmas.Bool.{eqb-true, eq-eqb, ltb-false, false_from_ne_true, both_ways}
use Rattle.std.proofs.lemmas.List.Sums.{length-filter}
use Rattle.card_set.specs.declared.card.Card.{Card}
use Rattle.card_set.specs.declared.card.Slot.{Slot}
use Rattle.card_set.specs.declared.card.Slot.TheVariants as slots
use Rattle.card_set.specs.Deck.{is_same_card, deck_index}
use Rattle.card_set.specs.Known.{hides_card, known_among}
use Rattle.play_event.specs.Places.{Place, is_held_by}
use Rattle.play_event.specs.NameMatching.{without_name, unmatched_names, is_named, matched_card, after_matching, after_discard, discarded_now, blanks_in, is_known_and_named, named_count, unknown_count}
use Rattle.play_event.specs.Taken.{is_one_card}
use Rattle.play_event.specs.CardReasons.{has_no_place}
use Rattle.play_event.specs.Laws.{IsAmong}
use Rattle.card_set.proofs.Tests.{false_true, one_if}

-- no later place has the card of an earlier one
abbrev pub AllApart : List Place → Type 0
AllApart [] = Unit {0}
AllApart (first ∷ rest) = ((later : Place) → IsAmong rest later → is_one_card first.slot later.slot ≡ false) × AllApart rest

-- a card that is taken out of the names is one of them
drop_length : (card : Card) (names : List Card) → is_named card names ≡ true → length names ≡ suc (length (without_name (slots.Known card) names))
drop_length card [] named = false_true named
drop_length card (name ∷ rest) named = by_first (is_same_card card name) refl named (drop_length card rest)
  where
    by_first : (b : Bool) → is_same_card card name ≡ b → (b || is_named card rest) ≡ true → (is_named card rest ≡ true → length rest ≡ suc (length (without_name (slots.Known card) rest))) → length (name ∷ rest) ≡ suc (length (if b then rest else (name ∷ without_name (slots.Known card) rest)))
    by_first true same it later = refl
    by_first false same it later = ap suc (later it)

-- removing a card that is not named removes no name
pub keep_length : (card : Card) (names : List Card) → is_named card names ≡ false → without_name (slots.Known card) names ≡ names
keep_length card [] named = refl
keep_length card (name ∷ rest) named = by_first (is_same_card card name) named (keep_length card rest)
  where
    by_first : (b : Bool) → (b || is_named card rest) ≡ false → (is_named card rest ≡ false → without_name (slots.Known card) rest ≡ rest) → (if b then rest else (name ∷ without_name (slots.Known card) rest)) ≡ name ∷ rest
    by_first true it later = false_true (sym it)
    by_first false it later = ap (λ l. name ∷ l) (later it)

-- another card is named as before
other_named : (card other : Card) (names : List Card) → is_same_card card other ≡ false → is_named other (without_name (slots.Known card) names) ≡ is_named other names
other_named card other [] differ = refl
other_named card other (name ∷ rest) differ = by_first (is_same_card card name) refl (other_named card other rest differ)
  where
    by_first : (b : Bool) → is_same_card card name ≡ b → is_named other (without_name (slots.Known card) rest) ≡ is_named other rest → is_named other (if b then rest else (name ∷ without_name (slots.Known card) rest)) ≡ (is_same_card other name || is_named other rest)
    by_first false same later = ap (λ b. is_same_card other name || b) later
    by_first true same later =
        let not_it : is_same_card other name ≡ false = false_from_ne_true (is_same_card other name) (λ now.
        both_ways (is_same_card card other) differ (eq-eqb (deck_index card) (deck_index other) (eqb-true (deck_index card) (deck_index name) same ∙ sym (eqb-true (deck_index other) (deck_index name) now)))) in
        sym (ap (λ b. b || is_named other rest) not_it)

one_same : (card : Card) (names : List Card) (slot : Slot) → is_one_card (slots.Known card) slot ≡ false → ◌≡◌ {A = ℕ} (if is_known_and_named (without_name (slots.Known card) names) slot then 1 else 0) (if is_known_and_named names slot then 1 else 0)
one_same card names slots.Unknown apart = refl
one_same card names (slots.Known other) apart = ap one_if (other_named card other names apart)

count_same : (card : Card) (names : List Card) (places : List Place) → ((later : Place) → IsAmong places later → is_one_card (slots.Known card) later.slot ≡ false) → named_count (without_name (slots.Known card) names) places ≡ named_count names places
count_same card names [] apart = refl
count_same card names (place ∷ rest) apart = omega (arith, one_same card names place.slot (apart place (inl refl)), count_same card names rest (λ other among. apart other (inr among)))

-- the names are those of known places, and the others
pub names_split : (places : List Place) (names : List Card) → AllApart places → length names ≡ named_count names places + length (unmatched_names places names)
names_split [] names apart = omega arith
names_split (place ∷ rest) names apart = by_slot place.slot refl (λ more. names_split rest more apart.1)
  where
    by_named : (card : Card) → place.slot ≡ slots.Known card → (b : Bool) → is_named card names ≡ b → ((more : List Card) → length more ≡ named_count more rest + length (unmatched_names rest more)) → length names ≡ ((if b then 1 else 0) + named_count names rest) + length (unmatched_names rest (without_name (slots.Known card) names))
    by_named card here true named later =
        let same : named_count (without_name (slots.Known card) names) rest ≡ named_count names rest = count_same card names rest (λ other among. sym (ap (λ s. is_one_card s other.slot) here) ∙ apart.0 other among) in
        omega (arith, drop_length card names named, later (without_name (slots.Known card) names), same)
    by_named card here false named later = omega (arith, later names, ap (λ l. length (unmatched_names rest l)) (keep_length card names named))

    by_slot : (slot : Slot) → place.slot ≡ slot → ((more : List Card) → length more ≡ named_count more rest + length (unmatched_names rest more)) → length names ≡ ((if is_known_and_named names place.slot then 1 else 0) + named_count names rest) + length (unmatched_names rest (without_name place.slot names))
    by_slot slots.Unknown here later =
        omega (arith, later names, ap {B = ℕ} (λ s. if is_known_and_named names s then 1 else 0) here, ap (λ s. length (unmatched_names rest (without_name s names))) here)
    by_slot (slots.Known card) here later =
        omega (arith, by_named card here (is_named card names) refl later, ap {B = ℕ} (λ s. if is_known_and_named names s then 1 else 0) here, ap (λ s. length (unmatched_names rest (without_name s names))) here)

-- the marked places
pub record IsMarking (covers out : Place → Bool) (mark : Place → Place) (placed : List Place) : Type 0 where
  pub before : (place : Place) → IsAmong placed place → covers place ≡ true → out place ≡ false
  pub after : (place : Place) (slot : Slot) → IsAmong placed place → covers place ≡ true → out (mark (record place { slot = slot })) ≡ true

marking_rest : (covers out : Place → Bool) (mark : Place → Place) (first : Place) (rest : List Place) → IsMarking covers out mark (first ∷ rest) → IsMarking covers out mark rest
marking_rest covers out mark first rest is = record { before = λ place among. is.before place (inr among); after = λ place slot among. is.after place slot (inr among) }

marked_more : (out : Place → Bool) (old new : Place) (olds news : List Place) (n : ℕ) → out old ≡ false → out new ≡ true → length (filter out news) ≡ length (filter out olds) + n → length (if out new then (new ∷ filter out news) else filter out news) ≡ length (if out old then (old ∷ filter out olds) else filter out olds) + (1 + n)
marked_more out old new olds news n before after later =
    omega (arith, later, ap (λ b. length (if b then (new ∷ filter out news) else filter out news)) after, ap (λ b. length (if b then (old ∷ filter out olds) else filter out olds)) before)

same_more : (out : Place → Bool) (place : Place) (olds news : List Place) (n : ℕ) → length (filter out news) ≡ length (filter out olds) + n → length (if out place then (place ∷ filter out news) else filter out news) ≡ length (if out place then (place ∷ filter out olds) else filter out olds) + n
same_more out place olds news n later = by_out (out place)
  where
    by_out : (b : Bool) → length (if b then (place ∷ filter out news) else filter out news) ≡ length (if b then (place ∷ filter out olds) else filter out olds) + n
    by_out true = omega (arith, later)
    by_out false = later

count_step : (covers out : Place → Bool) (mark : Place → Place) (names : List Card) (place : Place) (rest : List Place) (slot : Slot) (others : List Card) (blanks : ℕ) (c : Bool) → place.slot ≡ slot → covers place ≡ c → IsMarking covers out mark (place ∷ rest)
    → ((os : List Card) (n : ℕ) → length os + n ≤ unknown_count (filter covers rest) → length (filter out (after_matching covers mark names os n rest)) ≡ length (filter out rest) + (named_count names (filter covers rest) + (length os + n)))
    → length others + blanks ≤ unknown_count (if c then (place ∷ filter covers rest) else filter covers rest)
    → length (filter out (if c then (let found = matched_card mark names slot others blanks place in found.place ∷ after_matching covers mark names found.others found.blanks rest) else (place ∷ after_matching covers mark names others blanks rest))) ≡ length (if out place then (place ∷ filter out rest) else filter out rest) + (named_count names (if c then (place ∷ filter covers rest) else filter covers rest) + (length others + blanks))
count_step covers out mark names place rest slot others blanks false here covered is later few =
    same_more out place rest (after_matching covers mark names others blanks rest) (named_count names (filter covers rest) + (length others + blanks)) (later others blanks few)
count_step covers out mark names place rest slots.Unknown (card ∷ others) blanks true here covered is later few =
    omega (
      arith,
      marked_more out place (mark (record place { slot = slots.Known card })) rest (after_matching covers mark names others blanks rest) (named_count names (filter covers rest) + (length others + blanks)) (is.before place (inl refl) covered) (is.after place (slots.Known card) (inl refl) covered)
          (later others blanks (omega (arith, few, ap unknown_one here))),
      ap (named_one names) here,
    )
  where
    unknown_one : Slot → ℕ
    unknown_one s = if hides_card s then 1 else 0

    named_one : List Card → Slot → ℕ
    named_one l s = if is_known_and_named l s then 1 else 0
count_step covers out mark names place rest slots.Unknown [] zero true here covered is later few =
    omega (arith, same_more out place rest (after_matching covers mark names [] 0 rest) (named_count names (filter covers rest) + 0) (later [] 0 (omega arith)), ap (named_one names) here)
  where
    named_one : List Card → Slot → ℕ
    named_one l s = if is_known_and_named l s then 1 else 0
count_step covers out mark names place rest slots.Unknown [] (suc blanks) true here covered is later few =
    omega (
      arith,
      marked_more out place (mark place) rest (after_matching covers mark names [] blanks rest) (named_count names (filter covers rest) + (0 + blanks)) (is.before place (inl refl) covered) (is.after place place.slot (inl refl) covered)
          (later [] blanks (omega (arith, few, ap unknown_one here))),
      ap (named_one names) here,
    )
  where
    unknown_one : Slot → ℕ
    unknown_one s = if hides_card s then 1 else 0

    named_one : List Card → Slot → ℕ
    named_one l s = if is_known_and_named l s then 1 else 0
count_step covers out mark names place rest (slots.Known card) others blanks true here covered is later few = by_named (is_named card names) refl
  where
    unknown_one : Slot → ℕ
    unknown_one s = if hides_card s then 1 else 0

    named_one : List Card → Slot → ℕ
    named_one l s = if is_known_and_named l s then 1 else 0

    by_named : (b : Bool) → is_named card names ≡ b → length (if out (if b then mark place else place) then ((if b then mark place else place) ∷ filter out (after_matching covers mark names others blanks rest)) else filter out (after_matching covers mark names others blanks rest)) ≡ length (if out place then (place ∷ filter out rest) else filter out rest) + (named_count names (place ∷ filter covers rest) + (length others + blanks))
    by_named true named =
        omega (
          arith,
          marked_more out place (mark place) rest (after_matching covers mark names others blanks rest) (named_count names (filter covers rest) + (length others + blanks)) (is.before place (inl refl) covered) (is.after place place.slot (inl refl) covered)
              (later others blanks (omega (arith, few, ap unknown_one here))),
          ap (named_one names) here,
          ap {B = ℕ} (λ b. if b then 1 else 0) named,
        )
    by_named false named =
        omega (arith, same_more out place rest (after_matching covers mark names others blanks rest) (named_count names (filter covers rest) + (length others + blanks)) (later others blanks (omega (arith, few, ap unknown_one here))), ap (named_one names) here, ap {B = ℕ} (λ b. if b then 1 else 0) named)

-- as many places are marked as there are names and blanks
pub names_marked : (covers out : Place → Bool) (mark : Place → Place) (names others : List Card) (blanks : ℕ) (placed : List Place) → IsMarking covers out mark placed → length others + blanks ≤ unknown_count (filter covers placed) → length (filter out (after_matching covers mark names others blanks placed)) ≡ length (filter out placed) + (named_count names (filter covers placed) + (length others + blanks))
names_marked covers out mark names others blanks [] is few = omega (arith, few)
names_marked covers out mark names others blanks (place ∷ rest) is few =
    count_step covers out mark names place rest place.slot others blanks (covers place) refl refl is (λ os n fits. names_marked covers out mark names os n rest (marking_rest covers out mark place rest is) fits) few

-- as many places are marked as the discard names
known_and_blank : (cards : List Slot) → length cards ≡ length (known_among cards) + length (filter hides_card cards)
known_and_blank [] = refl
known_and_blank (slots.Known card ∷ rest) = omega (arith, known_and_blank rest)
known_and_blank (slots.Unknown ∷ rest) = omega (arith, known_and_blank rest)

unknown_step : (place : Place) (rest : List Place) (b : Bool) → length (filter (λ (p : Place). hides_card p.slot) rest) ≡ unknown_count rest → length (if b then (place ∷ filter (λ (p : Place). hides_card p.slot) rest) else filter (λ (p : Place). hides_card p.slot) rest) ≡ (if b then 1 else 0) + unknown_count rest
unknown_step place rest true later = omega (arith, later)
unknown_step place rest false later = omega (arith, later)

unknown_length : (placed : List Place) → length (filter (λ (place : Place). hides_card place.slot) placed) ≡ unknown_count placed
unknown_length [] = refl
unknown_length (place ∷ rest) = unknown_step place rest (hides_card place.slot) (unknown_length rest)

-- a discard takes as many places as it names
pub discard_count : (out : Place → Bool) (street seat : ℕ) (cards : List Slot) (placed : List Place) → IsMarking (is_held_by seat) out (discarded_now street (length placed)) placed → AllApart (filter (is_held_by seat) placed) → has_no_place (filter (is_held_by seat) placed) (known_among cards) (blanks_in cards) ≡ false → length (filter out (after_discard street seat cards placed)) ≡ length (filter out placed) + length cards
discard_count out street seat cards placed is apart held =
    let covered : List Place = filter (is_held_by seat) placed in
    let names : List Card = known_among cards in
    let others : List Card = unmatched_names covered names in
    let few : length others + blanks_in cards ≤ count_by (λ (place : Place). hides_card place.slot) covered = ltb-false (count_by (λ (place : Place). hides_card place.slot) covered) (length others + blanks_in cards) held in
    omega (
      arith,
      names_marked (is_held_by seat) out (discarded_now street (length placed)) names others (blanks_in cards) placed is (omega (arith, few, length-filter (λ (place : Place). hides_card place.slot) covered, unknown_length covered)),
      names_split covered names apart,
      known_and_blank cards,
      length-filter hides_card cards,
    )
