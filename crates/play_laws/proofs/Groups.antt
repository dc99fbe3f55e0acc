-- A group is as long as the deals to its owner: folds, discards and shows keep the owner and the
-- street of a place.
use Rattle.std.proofs.Common.{◌≡◌, ℕ, zero, suc, ◌+◌, Bool, true, false, ◌&&◌, ◌==◌, Option, Some, None, List, [], ◌∷◌, ◌++◌, map, filter, length, count_by, refl, sym, ◌∙◌, ap, arith, length-append, if◌then◌else◌}
use Rattle.std.proofs.lemmas.List.Elements.{filter-append}
use Rattle.std.proofs.lemmas.List.Sums.{length-filter}
use Rattle.std.proofs.lemmas.List.{length-map}
use Rattle.card_set.specs.Known.{known_among}
use Rattle.card_set.specs.declared.card.Card.{Card}
use Rattle.card_set.specs.declared.card.Slot.TheVariants as slots
use Rattle.card_set.specs.declared.card.Slot.{Slot}
use Rattle.play_event.specs.Dealing.{hole_cards_dealt, board_cards_dealt}
use Rattle.play_event.specs.NameMatching.{matched_card, after_matching, after_discard, after_show, discarded_now, is_named, unmatched_names, blanks_in, can_be_named, is_show_of_all}
use Rattle.play_event.specs.Past.{Past, Dealt, Boarded, Moved, Discarded, Shown, Mucked, is_folding}
use Rattle.play_event.specs.Places.{Place, is_same_owner, is_in_group, is_held_by, is_past_deck, places_dealt, after_fold, folded_place}
use Rattle.play_event.specs.Table.{places_of}
use Rattle.play_event.specs.declared.code.Code.{Code}
use Rattle.play_laws.specs.Groups.{IsStill, AreStill, cards_dealt}
use Rattle.play_event.proofs.DealingLaws.{dealt_group}
use Rattle.card_set.proofs.Tests.{if_and_swap_added, if_same_added}

pub still : (place : Place) → IsStill place place
still place = record { owner = refl; street = refl }

still_if : (b : Bool) (old new : Place) → IsStill old new → IsStill old (if b then new else old)
still_if true old new same = same
still_if false old new same = still old

pub fold_still : (seat count : ℕ) (placed : List Place) → AreStill placed (map (folded_place seat count) placed)
fold_still seat count [] = tt
fold_still seat count (place ∷ rest) = (still_if (is_held_by seat place) place (record place { gone_after = Some count }) (record { owner = refl; street = refl }), fold_still seat count rest)

pub names_still : (covers : Place → Bool) (mark : Place → Place) (names others : List Card) (blanks : ℕ) (placed : List Place) → ((place : Place) → IsStill place (mark place)) → AreStill placed (after_matching covers mark names others blanks placed)
names_still covers mark names others blanks [] marks = tt
names_still covers mark names others blanks (place ∷ rest) marks = by_cover (covers place) (λ left n. names_still covers mark names left n rest marks)
  where
    by_slot : (slot : Slot) (left : List Card) (n : ℕ) → ((left : List Card) (n : ℕ) → AreStill rest (after_matching covers mark names left n rest)) → AreStill (place ∷ rest) (let found = matched_card mark names slot left n place in found.place ∷ after_matching covers mark names found.others found.blanks rest)
    by_slot (slots.Known card) left n later = (still_if (is_named card names) place (mark place) (marks place), later left n)
    by_slot slots.Unknown (card ∷ left) n later =
        let marked = marks (record place { slot = slots.Known card }) in
        (record { owner = marked.owner; street = marked.street }, later left n)
    by_slot slots.Unknown [] zero later = (still place, later [] 0)
    by_slot slots.Unknown [] (suc n) later = (marks place, later [] n)

    by_cover : (b : Bool) → ((left : List Card) (n : ℕ) → AreStill rest (after_matching covers mark names left n rest)) → AreStill (place ∷ rest) (if b then (let found = matched_card mark names place.slot others blanks place in found.place ∷ after_matching covers mark names found.others found.blanks rest) else (place ∷ after_matching covers mark names others blanks rest))
    by_cover true later = by_slot place.slot others blanks later
    by_cover false later = (still place, later others blanks)

group_still : (owner : Option ℕ) (street : ℕ) (old new : Place) → IsStill old new → is_in_group owner street new ≡ is_in_group owner street old
group_still owner street old new same = ap (λ o. is_same_owner o owner && (new.street == street)) same.owner ∙ ap (λ s. is_same_owner old.owner owner && (s == street)) same.street

length_if : (a b : Bool) (x y : Place) (xs ys : List Place) → a ≡ b → length xs ≡ length ys → length (if a then (x ∷ xs) else xs) ≡ length (if b then (y ∷ ys) else ys)
length_if true true x y xs ys same later = ap suc later
length_if false false x y xs ys same later = later
length_if true false x y xs ys same later = absurd cc
length_if false true x y xs ys same later = absurd cc

-- groups stay as long
pub still_group : (owner : Option ℕ) (street : ℕ) (olds news : List Place) → AreStill olds news → length (filter (is_in_group owner street) news) ≡ length (filter (is_in_group owner street) olds)
still_group owner street [] [] same = refl
still_group owner street [] (new ∷ news) same = absurd same
still_group owner street (old ∷ olds) [] same = absurd same
still_group owner street (old ∷ olds) (new ∷ news) same =
    length_if (is_in_group owner street new) (is_in_group owner street old) new old (filter (is_in_group owner street) news) (filter (is_in_group owner street) olds) (group_still owner street old new same.0) (still_group owner street olds news same.1)

pub deal_group : (owner to : Option ℕ) (street on : ℕ) (late : Bool) (index number : ℕ) (cards : List Slot) (placed : List Place) → length (filter (is_in_group owner street) (placed ++ places_dealt to on late index number cards)) ≡ (if is_same_owner to owner && (on == street) then length cards else 0) + length (filter (is_in_group owner street) placed)
deal_group owner to street on late index number cards placed =
    let news : List Place = places_dealt to on late index number cards in
    omega (arith, ap (λ (l : List Place). length l) (filter-append (is_in_group owner street) placed news), length-append (filter (is_in_group owner street) placed) (filter (is_in_group owner street) news), dealt_group owner to street on late index number cards)

group_length : (code : Code) (owner : Option ℕ) (past : Past) (street : ℕ) → length (filter (is_in_group owner street) (places_of code past)) ≡ cards_dealt past street owner
group_length code (Some seat) [] street = refl
group_length code None [] street = refl
group_length code (Some seat) (Dealt on to cards ∷ before) street =
    let placed = places_of code before in
    deal_group (Some seat) (Some to) street on (is_past_deck code placed on) (count_by (is_in_group (Some to) on) placed) (length placed) cards placed
    ∙ ap (λ n. (if (to == seat) && (on == street) then length cards else 0) + n) (group_length code (Some seat) before street)
    ∙ if_and_swap_added (to == seat) (on == street) (length cards) (hole_cards_dealt before street seat)
group_length code None (Dealt on to cards ∷ before) street =
    let placed = places_of code before in
    omega (arith, deal_group None (Some to) street on (is_past_deck code placed on) (count_by (is_in_group (Some to) on) placed) (length placed) cards placed, group_length code None before street)
group_length code (Some seat) (Boarded on cards ∷ before) street =
    let placed = places_of code before in
    omega (arith, deal_group (Some seat) None street on (is_past_deck code placed on) (count_by (is_in_group None on) placed) (length placed) (map (λ card. slots.Known card) cards) placed, group_length code (Some seat) before street)
group_length code None (Boarded on cards ∷ before) street =
    let placed = places_of code before in
    deal_group None None street on (is_past_deck code placed on) (count_by (is_in_group None on) placed) (length placed) (map (λ card. slots.Known card) cards) placed
    ∙ ap (λ n. (if on == street then length (map (λ card. slots.Known card) cards) else 0) + n) (group_length code None before street)
    ∙ if_same_added (on == street) (length (map (λ card. slots.Known card) cards)) (length cards) (board_cards_dealt before street) (length-map cards (λ card. slots.Known card))
group_length code owner (Moved move ∷ before) street = by_fold (is_folding move.act) owner (group_length code owner before street)
  where
    by_fold : (b : Bool) (o : Option ℕ) → length (filter (is_in_group o street) (places_of code before)) ≡ cards_dealt before street o → length (filter (is_in_group o street) (if b then after_fold move.seat (places_of code before) else places_of code before)) ≡ cards_dealt (Moved move ∷ before) street o
    by_fold true (Some seat) later = still_group (Some seat) street (places_of code before) (after_fold move.seat (places_of code before)) (fold_still move.seat (length (places_of code before)) (places_of code before)) ∙ later
    by_fold true None later = still_group None street (places_of code before) (after_fold move.seat (places_of code before)) (fold_still move.seat (length (places_of code before)) (places_of code before)) ∙ later
    by_fold false (Some seat) later = later
    by_fold false None later = later
group_length code owner (Discarded on seat cards ∷ before) street = by_owner owner (group_length code owner before street)
  where
    by_owner : (o : Option ℕ) → length (filter (is_in_group o street) (places_of code before)) ≡ cards_dealt before street o → length (filter (is_in_group o street) (after_discard on seat cards (places_of code before))) ≡ cards_dealt (Discarded on seat cards ∷ before) street o
    by_owner (Some other) later =
        let placed = places_of code before in
        still_group (Some other) street placed (after_discard on seat cards placed) (names_still (is_held_by seat) (discarded_now on (length placed)) (known_among cards) (unmatched_names (filter (is_held_by seat) placed) (known_among cards)) (blanks_in cards) placed (λ place. record { owner = refl; street = refl })) ∙ later
    by_owner None later =
        let placed = places_of code before in
        still_group None street placed (after_discard on seat cards placed) (names_still (is_held_by seat) (discarded_now on (length placed)) (known_among cards) (unmatched_names (filter (is_held_by seat) placed) (known_among cards)) (blanks_in cards) placed (λ place. record { owner = refl; street = refl })) ∙ later
group_length code owner (Shown on seat cards ∷ before) street = by_owner owner (group_length code owner before street)
  where
    by_owner : (o : Option ℕ) → length (filter (is_in_group o street) (places_of code before)) ≡ cards_dealt before street o → length (filter (is_in_group o street) (after_show code seat cards (places_of code before))) ≡ cards_dealt (Shown on seat cards ∷ before) street o
    by_owner (Some other) later =
        let placed = places_of code before in
        let covers : Place → Bool = can_be_named code seat (is_show_of_all placed seat cards) in
        still_group (Some other) street placed (after_show code seat cards placed) (names_still covers (λ place. place) cards (unmatched_names (filter covers placed) cards) 0 placed still) ∙ later
    by_owner None later =
        let placed = places_of code before in
        let covers : Place → Bool = can_be_named code seat (is_show_of_all placed seat cards) in
        still_group None street placed (after_show code seat cards placed) (names_still covers (λ place. place) cards (unmatched_names (filter covers placed) cards) 0 placed still) ∙ later
group_length code (Some other) (Mucked on seat ∷ before) street = group_length code (Some other) before street
group_length code None (Mucked on seat ∷ before) street = group_length code None before street

-- what an owner was dealt on a street is its group
pub group_count : (code : Code) (owner : Option ℕ) (past : Past) (street : ℕ) → count_by (is_in_group owner street) (places_of code past) ≡ cards_dealt past street owner
group_count code owner past street = sym (length-filter (is_in_group owner street) (places_of code past)) ∙ group_length code owner past street
