-- What holds of the places of every legal past as a list: numbers and indices count up, cards are
-- in the deck, and of a seat's unknown cards those dealt first are discarded first.
use Rattle.std.proofs.Common.{◌≡◌, ℕ, zero, suc, ◌+◌, ◌≤◌, Bool, true, false, ◌&&◌, ◌==◌, inl, inr, Option, Some, None, List, [], ◌∷◌, ◌++◌, map, filter, length, count_by, refl, sym, ◌∙◌, ap, subst, arith, if◌then◌else◌}
use Rattle.std.proofs.lemmas.Bool.{and_parts, eqb-true}
use Rattle.std.proofs.lemmas.List.Sums.{length-filter}
use Rattle.card_set.specs.declared.card.Slot.{Slot}
use Rattle.card_set.specs.declared.card.Slot.TheVariants as slots
use Rattle.card_set.specs.declared.card.Card.{Card}
use Rattle.std.proofs.lemmas.List.Elements.{filter-append}
use Rattle.play_event.specs.declared.code.Code.{Code}
use Rattle.play_event.specs.declared.setup.Setup.{Setup}
use Rattle.play_event.specs.Past.{Past, Resolved, is_folding}
use Rattle.card_set.specs.Known.{hides_card, known_among}
use Rattle.play_event.specs.Places.{Place, is_same_owner, is_in_group, is_past_deck, places_dealt, after_deal, is_held_by, folded_place, after_fold, gone_now, group_of}
use Rattle.play_event.specs.NameMatching.{after_matching, after_discard, after_show, unmatched_names, blanks_in, can_be_named, is_show_of_all, matched_card, is_named}
use Rattle.play_event.specs.Table.{places_of}
use Rattle.play_event.specs.Laws.{IsAmong}
use Rattle.card_set.proofs.Tests.{false_true}
use Rattle.play_event.proofs.ClashLaws.{among_append}
use Rattle.play_laws.specs.LegalPlaces.{OutFirst, UnknownsFirst}
use Rattle.play_laws.specs.PastLaws.{PastLaw}
use Rattle.play_laws.proofs.DueAtEvents.{Reaches}
use Rattle.play_laws.proofs.LegalEvents.{Stepped, deals, boards, moves, discards, shows, mucks}
use Rattle.play_laws.proofs.PastLawKept.{is_next_to_draw}
use Rattle.play_laws.proofs.LegalPlaces.{PlacesOf}
use Rattle.play_laws.proofs.DealtPlaces.{are_new}
use Rattle.play_laws.proofs.QuietEvents.{AreMarked, discard_marks, show_marks, is_nothing}
use Rattle.play_laws.proofs.PlaceGroups.{AreRising, AreIndexed}
use Rattle.play_laws.proofs.UnknownCards.{discard_unknowns}
use Rattle.play_laws.proofs.DrawnDiscards.{covers_hand}
use Rattle.play_event.proofs.OwnerLaws.{is_same_owner-true}

-- numbers are places in the list
abbrev pub AreNumbered : ℕ → List Place → Type 0
AreNumbered number [] = Unit {0}
AreNumbered number (first ∷ rest) = (first.number ≡ number) × AreNumbered (number + 1) rest

numbered_above : (number : ℕ) (placed : List Place) (place : Place) → AreNumbered number placed → IsAmong placed place → number ≤ place.number
numbered_above number [] place numbered among = absurd among
numbered_above number (first ∷ rest) place numbered (inl same) = omega (arith, numbered.0, ap (λ (p : Place). p.number) same)
numbered_above number (first ∷ rest) place numbered (inr later) = omega (arith, numbered_above (number + 1) rest place numbered.1 later)

-- numbers that count up are ascending
pub rising : (number : ℕ) (placed : List Place) → AreNumbered number placed → AreRising placed
rising number [] numbered = tt
rising number (first ∷ rest) numbered = (λ later among. omega (arith, numbered.0, numbered_above (number + 1) rest later numbered.1 among), rising (number + 1) rest numbered.1)

numbered_append : (number : ℕ) (placed more : List Place) → AreNumbered number placed → AreNumbered (number + length placed) more → AreNumbered number (placed ++ more)
numbered_append number [] more first second = let P : ℕ → Type 0 = λ n. AreNumbered n more in let same : number + 0 ≡ number = omega arith in subst P same second
numbered_append number (place ∷ rest) more first second =
    let P : ℕ → Type 0 = λ n. AreNumbered n more in
    let same : number + length (place ∷ rest) ≡ (number + 1) + length rest = omega arith in
    (first.0, numbered_append (number + 1) rest more first.1 (subst P same second))

dealt_numbered : (owner : Option ℕ) (street : ℕ) (late : Bool) (index number : ℕ) (cards : List Slot) → AreNumbered number (places_dealt owner street late index number cards)
dealt_numbered owner street late index number [] = tt
dealt_numbered owner street late index number (slot ∷ rest) = (refl, dealt_numbered owner street late (index + 1) (number + 1) rest)

-- changes keep numbers
abbrev pub AreAlike : List Place → List Place → Type 0
AreAlike [] [] = Unit {0}
AreAlike [] (new ∷ news) = ⊥
AreAlike (old ∷ olds) [] = ⊥
AreAlike (old ∷ olds) (new ∷ news) = ((new.number ≡ old.number) × ((new.index ≡ old.index) × ((new.owner ≡ old.owner) × (new.street ≡ old.street)))) × AreAlike olds news

alike_numbered : (number : ℕ) (olds news : List Place) → AreAlike olds news → AreNumbered number olds → AreNumbered number news
alike_numbered number [] [] alike numbered = tt
alike_numbered number [] (new ∷ news) alike numbered = absurd alike
alike_numbered number (old ∷ olds) [] alike numbered = absurd alike
alike_numbered number (old ∷ olds) (new ∷ news) alike numbered = (alike.0.0 ∙ numbered.0, alike_numbered (number + 1) olds news alike.1 numbered.1)

alike_step : (old new : Place) (olds news : List Place) (index : ℕ) (a b : Bool) → a ≡ b → new.index ≡ old.index → ((i : ℕ) → AreIndexed i olds → AreIndexed i news) → AreIndexed index (if b then (old ∷ olds) else olds) → AreIndexed index (if a then (new ∷ news) else news)
alike_step old new olds news index true true same at later indexed = (at ∙ indexed.0, later (index + 1) indexed.1)
alike_step old new olds news index true false same at later indexed = false_true (sym same)
alike_step old new olds news index false true same at later indexed = false_true same
alike_step old new olds news index false false same at later indexed = later index indexed

alike_indexed : (owner : Option ℕ) (street index : ℕ) (olds news : List Place) → AreAlike olds news → AreIndexed index (filter (is_in_group owner street) olds) → AreIndexed index (filter (is_in_group owner street) news)
alike_indexed owner street index [] [] alike indexed = tt
alike_indexed owner street index [] (new ∷ news) alike indexed = absurd alike
alike_indexed owner street index (old ∷ olds) [] alike indexed = absurd alike
alike_indexed owner street index (old ∷ olds) (new ∷ news) alike indexed =
    alike_step old new (filter (is_in_group owner street) olds) (filter (is_in_group owner street) news) index (is_in_group owner street new) (is_in_group owner street old)
    (ap (λ o. is_same_owner o owner && (new.street == street)) alike.0.1.1.0 ∙ ap (λ s. is_same_owner old.owner owner && (s == street)) alike.0.1.1.1) alike.0.1.0
    (λ i is. alike_indexed owner street i olds news alike.1 is) indexed

marked_alike : (covers : Place → Bool) (count draw : ℕ) (olds news : List Place) → AreMarked covers count draw olds news → AreAlike olds news
marked_alike covers count draw [] [] is = tt
marked_alike covers count draw [] (new ∷ news) is = absurd is
marked_alike covers count draw (old ∷ olds) [] is = absurd is
marked_alike covers count draw (old ∷ olds) (new ∷ news) is = ((is.0.number, (is.0.index, (is.0.owner, is.0.street))), marked_alike covers count draw olds news is.1)

fold_alike : (seat count : ℕ) (placed : List Place) → AreAlike placed (map (folded_place seat count) placed)
fold_alike seat count [] = tt
fold_alike seat count (place ∷ rest) = (one (is_held_by seat place), fold_alike seat count rest)
  where
    one : (b : Bool) → ((if b then gone_now count place else place).number ≡ place.number) × (((if b then gone_now count place else place).index ≡ place.index) × (((if b then gone_now count place else place).owner ≡ place.owner) × ((if b then gone_now count place else place).street ≡ place.street)))
    one true = (refl, (refl, (refl, refl)))
    one false = (refl, (refl, (refl, refl)))

-- a deal's own group
indexed_append : (index : ℕ) (xs ys : List Place) → AreIndexed index xs → AreIndexed (index + length xs) ys → AreIndexed index (xs ++ ys)
indexed_append index [] ys first second = let P : ℕ → Type 0 = λ n. AreIndexed n ys in let same : index + 0 ≡ index = omega arith in subst P same second
indexed_append index (x ∷ xs) ys first second =
    let P : ℕ → Type 0 = λ n. AreIndexed n ys in
    let same : index + length (x ∷ xs) ≡ (index + 1) + length xs = omega arith in
    (first.0, indexed_append (index + 1) xs ys first.1 (subst P same second))

dealt_indexed : (owner to : Option ℕ) (street on : ℕ) (late : Bool) (index number : ℕ) (cards : List Slot) (b : Bool) → (is_same_owner to owner && (on == street)) ≡ b → AreIndexed index (filter (is_in_group owner street) (places_dealt to on late index number cards))
dealt_indexed owner to street on late index number [] b here = tt
dealt_indexed owner to street on late index number (slot ∷ rest) true here =
    let P : Bool → Type 0 = λ c. AreIndexed index (if c then (record { owner = to; street = on; index = index; number = number; slot = slot; past_deck = late; gone_after = None; discarded = 0 } ∷ filter (is_in_group owner street) (places_dealt to on late (index + 1) (number + 1) rest)) else filter (is_in_group owner street) (places_dealt to on late (index + 1) (number + 1) rest)) in
    subst P (sym here) (refl, dealt_indexed owner to street on late (index + 1) (number + 1) rest true here)
dealt_indexed owner to street on late index number (slot ∷ rest) false here =
    let P : List Place → Type 0 = AreIndexed index in
    subst P (sym (not_mine owner to street on late index number (slot ∷ rest) here)) tt
  where
    not_mine : (owner to : Option ℕ) (street on : ℕ) (late : Bool) (index number : ℕ) (cards : List Slot) → (is_same_owner to owner && (on == street)) ≡ false → filter (is_in_group owner street) (places_dealt to on late index number cards) ≡ []
    not_mine owner to street on late index number [] here = refl
    not_mine owner to street on late index number (slot ∷ rest) here =
        ap (λ c. if c then (record { owner = to; street = on; index = index; number = number; slot = slot; past_deck = late; gone_after = None; discarded = 0 } ∷ filter (is_in_group owner street) (places_dealt to on late (index + 1) (number + 1) rest)) else filter (is_in_group owner street) (places_dealt to on late (index + 1) (number + 1) rest)) here
        ∙ not_mine owner to street on late (index + 1) (number + 1) rest here

-- if the deal is not of the group, the index does not matter
other_indexed : (owner to : Option ℕ) (street on : ℕ) (late : Bool) (index other number : ℕ) (cards : List Slot) (b : Bool) → (is_same_owner to owner && (on == street)) ≡ b → (b ≡ true → index ≡ other) → AreIndexed other (filter (is_in_group owner street) (places_dealt to on late index number cards))
other_indexed owner to street on late index other number cards true here same =
    let P : ℕ → Type 0 = λ i. AreIndexed i (filter (is_in_group owner street) (places_dealt to on late index number cards)) in
    subst P (same refl) (dealt_indexed owner to street on late index number cards true here)
other_indexed owner to street on late index other number cards false here same = none_indexed (places_dealt to on late index number cards) (all_other index number cards)
  where
    all_other : (i n : ℕ) (cards : List Slot) (place : Place) → IsAmong (places_dealt to on late i n cards) place → is_in_group owner street place ≡ false
    all_other i n cards place among = let it = are_new to on late i n cards place among in ap (λ o. is_same_owner o owner && (place.street == street)) it.owner ∙ (ap (λ s. is_same_owner to owner && (s == street)) it.street ∙ here)

    none_indexed : (places : List Place) → ((place : Place) → IsAmong places place → is_in_group owner street place ≡ false) → AreIndexed other (filter (is_in_group owner street) places)
    none_indexed [] none = tt
    none_indexed (first ∷ rest) none =
        let P : Bool → Type 0 = λ c. AreIndexed other (if c then (first ∷ filter (is_in_group owner street) rest) else filter (is_in_group owner street) rest) in
        subst P (sym (none first (inl refl))) (none_indexed rest (λ place among. none place (inr among)))

-- a deal keeps the indices of each group counting up
pub deal_indexed : (code : Code) (owner to : Option ℕ) (street on : ℕ) (cards : List Slot) (placed : List Place) → AreIndexed 0 (group_of placed street owner) → AreIndexed 0 (group_of (after_deal code to on cards placed) street owner)
deal_indexed code owner to street on cards placed indexed =
    let late : Bool = is_past_deck code placed on in
    let index : ℕ = count_by (is_in_group to on) placed in
    let news : List Place = places_dealt to on late index (length placed) cards in
    let P : List Place → Type 0 = AreIndexed 0 in
    subst P (sym (filter-append (is_in_group owner street) placed news))
    (indexed_append 0 (filter (is_in_group owner street) placed) (filter (is_in_group owner street) news) indexed
    (other_indexed owner to street on late index (0 + length (filter (is_in_group owner street) placed)) (length placed) cards (is_same_owner to owner && (on == street)) refl (λ here.
    let parts = and_parts (is_same_owner to owner) (on == street) here in
    omega (arith, length-filter (is_in_group to on) placed, ap (λ o. length (filter (is_in_group o on) placed)) (is_same_owner-true to owner parts.0), ap (λ s. length (filter (is_in_group owner s) placed)) (eqb-true on street parts.1)))))

-- unknown cards after a deal, a fold and a show
unknowns_append : (placed more : List Place) → UnknownsFirst placed → ((place : Place) → IsAmong more place → place.discarded ≡ 0) → UnknownsFirst (placed ++ more)
unknowns_append [] more before none = all_new more none
  where
    all_new : (more : List Place) → ((place : Place) → IsAmong more place → place.discarded ≡ 0) → UnknownsFirst more
    all_new [] none = tt
    all_new (first ∷ rest) none = (λ second among owner one two some held when. absurd (omega (arith, some, none second (inr among))), all_new rest (λ place among. none place (inr among)))
unknowns_append (first ∷ rest) more before none = (
  λ second among owner one two some held when. elim (among_append rest more second among) [
    | inl old ↦ before.0 second old owner one two some held when
    | inr new ↦ absurd (omega (arith, some, none second new))
  ],
  unknowns_append rest more before.1 none,
)

-- places with the same owner, street and discard that are known at least as well
record IsFiner (old new : Place) : Type 0 where
  owner : new.owner ≡ old.owner
  street : new.street ≡ old.street
  discarded : new.discarded ≡ old.discarded
  unknown : hides_card new.slot ≡ true → hides_card old.slot ≡ true

AreFiner : List Place → List Place → Type 0
AreFiner [] [] = Unit {0}
AreFiner [] (new ∷ news) = ⊥
AreFiner (old ∷ olds) [] = ⊥
AreFiner (old ∷ olds) (new ∷ news) = IsFiner old new × AreFiner olds news

record FinerFrom (olds : List Place) (new : Place) : Type 0 where
  old : Place
  among : IsAmong olds old
  finer : IsFiner old new

finer_from : (olds news : List Place) (new : Place) → AreFiner olds news → IsAmong news new → FinerFrom olds new
unfolding AreFiner
finer_from [] [] new finer among = absurd among
finer_from [] (first ∷ news) new finer among = absurd finer
finer_from (old ∷ olds) [] new finer among = absurd among
finer_from (old ∷ olds) (first ∷ news) new finer (inl same) = let P : Place → Type 0 = IsFiner old in record { old = old; among = inl refl; finer = subst P same finer.0 }
finer_from (old ∷ olds) (first ∷ news) new finer (inr later) = let it = finer_from olds news new finer.1 later in record { old = it.old; among = inr it.among; finer = it.finer }

finer_out : (first second old_first old_second : Place) → IsFiner old_first first → IsFiner old_second second → OutFirst old_first old_second → OutFirst first second
finer_out first second old_first old_second one two before owner unknown_one unknown_two some held when =
    one.discarded ∙ before (sym one.owner ∙ (owner ∙ two.owner)) (one.unknown unknown_one) (two.unknown unknown_two) (omega (arith, some, two.discarded)) (omega (arith, held, one.street, two.discarded)) (elim when [ inl none ↦ inl (sym one.discarded ∙ none) | inr later ↦ inr (omega (arith, later, one.discarded, two.discarded)) ]) ∙ sym two.discarded

unknowns_finer : (olds news : List Place) → AreFiner olds news → UnknownsFirst olds → UnknownsFirst news
unfolding AreFiner
unknowns_finer [] [] finer before = tt
unknowns_finer [] (new ∷ news) finer before = absurd finer
unknowns_finer (old ∷ olds) [] finer before = absurd finer
unknowns_finer (old ∷ olds) (new ∷ news) finer before =
    (λ second among. let it = finer_from olds news second finer.1 among in finer_out new second old it.old finer.0 it.finer (before.0 it.old it.among), unknowns_finer olds news finer.1 before.1)

fold_finer : (seat count : ℕ) (placed : List Place) → AreFiner placed (map (folded_place seat count) placed)
unfolding AreFiner
fold_finer seat count [] = tt
fold_finer seat count (place ∷ rest) = (one (is_held_by seat place), fold_finer seat count rest)
  where
    one : (b : Bool) → IsFiner place (if b then gone_now count place else place)
    one true = record { owner = refl; street = refl; discarded = refl; unknown = λ is. is }
    one false = record { owner = refl; street = refl; discarded = refl; unknown = λ is. is }

finer_same : (place : Place) → IsFiner place place
finer_same place = record { owner = refl; street = refl; discarded = refl; unknown = λ is. is }

finer_maybe : (place : Place) (b : Bool) → IsFiner place (if b then place else place)
finer_maybe place true = finer_same place
finer_maybe place false = finer_same place

finer_found : (names : List Card) (slot : Slot) (others : List Card) (blanks : ℕ) (place : Place) → IsFiner place (matched_card (λ (p : Place). p) names slot others blanks place).place
finer_found names (slots.Known card) others blanks place = finer_maybe place (is_named card names)
finer_found names slots.Unknown (card ∷ others) blanks place = record { owner = refl; street = refl; discarded = refl; unknown = λ is. false_true is }
finer_found names slots.Unknown [] zero place = finer_same place
finer_found names slots.Unknown [] (suc blanks) place = finer_same place

finer_step : (covers : Place → Bool) (names others : List Card) (blanks : ℕ) (place : Place) (rest : List Place) (c : Bool) → ((os : List Card) (n : ℕ) → AreFiner rest (after_matching covers (λ (p : Place). p) names os n rest)) → AreFiner (place ∷ rest) (if c then (let found = matched_card (λ (p : Place). p) names place.slot others blanks place in found.place ∷ after_matching covers (λ (p : Place). p) names found.others found.blanks rest) else (place ∷ after_matching covers (λ (p : Place). p) names others blanks rest))
unfolding AreFiner
finer_step covers names others blanks place rest true later = (finer_found names place.slot others blanks place, later (matched_card (λ (p : Place). p) names place.slot others blanks place).others (matched_card (λ (p : Place). p) names place.slot others blanks place).blanks)
finer_step covers names others blanks place rest false later = (finer_same place, later others blanks)

show_finer : (covers : Place → Bool) (names others : List Card) (blanks : ℕ) (placed : List Place) → AreFiner placed (after_matching covers (λ (p : Place). p) names others blanks placed)
unfolding AreFiner
show_finer covers names others blanks [] = tt
show_finer covers names others blanks (place ∷ rest) = finer_step covers names others blanks place rest (covers place) (λ os n. show_finer covers names os n rest)

-- what holds of the list
pub record ListLaw (code : Code) (placed : List Place) : Type 0 where
  pub numbered : AreNumbered 0 placed
  pub indexed : (owner : Option ℕ) (street : ℕ) → AreIndexed 0 (group_of placed street owner)
  pub unknowns : UnknownsFirst placed

-- a legal event keeps the list of places in order
pub list_law : (setup : Setup) (before : Past) (at : ℕ) (event : Resolved) → PastLaw setup before → PlacesOf setup before → Reaches setup before at → Stepped setup before at event → ListLaw setup.code (places_of setup.code before) → ListLaw setup.code (places_of setup.code (event ∷ before))
list_law setup before at _ past law come (deals seat cards due is some few free) list = deal_list setup.code (Some seat) at cards (places_of setup.code before) list
  where
    deal_list : (code : Code) (owner : Option ℕ) (at : ℕ) (cards : List Slot) (placed : List Place) → ListLaw code placed → ListLaw code (after_deal code owner at cards placed)
    deal_list code owner at cards placed list =
        let late : Bool = is_past_deck code placed at in
        let index : ℕ = count_by (is_in_group owner at) placed in
        let P : ℕ → Type 0 = λ n. AreNumbered n (places_dealt owner at late index (length placed) cards) in
        let same : length placed ≡ 0 + length placed = omega arith in
        record {
          numbered = numbered_append 0 placed (places_dealt owner at late index (length placed) cards) list.numbered (subst P same (dealt_numbered owner at late index (length placed) cards));
          indexed = λ other street. deal_indexed code other owner street at cards placed (list.indexed other street);
          unknowns = unknowns_append placed (places_dealt owner at late index (length placed) cards) list.unknowns (λ place among. (are_new owner at late index (length placed) cards place among).discarded);
        }
list_law setup before at _ past law come (boards cards due some few free) list = deal_list setup.code None at (map (λ card. slots.Known card) cards) (places_of setup.code before) list
  where
    deal_list : (code : Code) (owner : Option ℕ) (at : ℕ) (cards : List Slot) (placed : List Place) → ListLaw code placed → ListLaw code (after_deal code owner at cards placed)
    deal_list code owner at cards placed list =
        let late : Bool = is_past_deck code placed at in
        let index : ℕ = count_by (is_in_group owner at) placed in
        let P : ℕ → Type 0 = λ n. AreNumbered n (places_dealt owner at late index (length placed) cards) in
        let same : length placed ≡ 0 + length placed = omega arith in
        record {
          numbered = numbered_append 0 placed (places_dealt owner at late index (length placed) cards) list.numbered (subst P same (dealt_numbered owner at late index (length placed) cards));
          indexed = λ other street. deal_indexed code other owner street at cards placed (list.indexed other street);
          unknowns = unknowns_append placed (places_dealt owner at late index (length placed) cards) list.unknowns (λ place among. (are_new owner at late index (length placed) cards place among).discarded);
        }
list_law setup before at _ past law come (mucks seat may) list = list
list_law setup before at _ past law come (shows seat cards may free) list =
    let placed = places_of setup.code before in
    let covers : Place → Bool = can_be_named setup.code seat (is_show_of_all placed seat cards) in
    let alike = marked_alike is_nothing (length placed) at placed (after_show setup.code seat cards placed) (show_marks covers (length placed) at cards (unmatched_names (filter covers placed) cards) 0 placed) in
    record {
      numbered = alike_numbered 0 placed (after_show setup.code seat cards placed) alike list.numbered;
      indexed = λ owner street. alike_indexed owner street 0 placed (after_show setup.code seat cards placed) alike (list.indexed owner street);
      unknowns = unknowns_finer placed (after_show setup.code seat cards placed) (show_finer covers cards (unmatched_names (filter covers placed) cards) 0 placed) list.unknowns;
    }
list_law setup before at _ past law come (discards seat cards no_deal draw next few free held) list =
    let placed = places_of setup.code before in
    let alike = marked_alike (is_held_by seat) (length placed) at placed (after_discard at seat cards placed) (discard_marks (is_held_by seat) (length placed) at (known_among cards) (unmatched_names (filter (is_held_by seat) placed) (known_among cards)) (blanks_in cards) placed) in
    record {
      numbered = alike_numbered 0 placed (after_discard at seat cards placed) alike list.numbered;
      indexed = λ owner street. alike_indexed owner street 0 placed (after_discard at seat cards placed) alike (list.indexed owner street);
      unknowns = discard_unknowns (is_held_by seat) seat at (length placed) (known_among cards) (unmatched_names (filter (is_held_by seat) placed) (known_among cards)) (blanks_in cards) placed (covers_hand setup before at seat past law come (is_next_to_draw setup before at seat next)) list.unknowns;
    }
list_law setup before at _ past law come (moves move no_deal no_draw on) list = by_fold (is_folding move.act)
  where
    by_fold : (b : Bool) → ListLaw setup.code (if b then after_fold move.seat (places_of setup.code before) else places_of setup.code before)
    by_fold false = list
    by_fold true =
        let placed = places_of setup.code before in
        let alike = fold_alike move.seat (length placed) placed in
        record {
          numbered = alike_numbered 0 placed (after_fold move.seat placed) alike list.numbered;
          indexed = λ owner street. alike_indexed owner street 0 placed (after_fold move.seat placed) alike (list.indexed owner street);
          unknowns = unknowns_finer placed (after_fold move.seat placed) (fold_finer move.seat (length placed) placed) list.unknowns;
        }
