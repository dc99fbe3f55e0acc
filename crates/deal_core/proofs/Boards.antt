-- The cards of the board are those that were dealt to it: they stay, and all are known.
use Rattle.std.proofs.Common.{◌≡◌, ℕ, zero, suc, ◌+◌, Bool, true, false, ◌&&◌, ◌||◌, not, if◌then◌else◌, is_none, Option, Some, None, List, [], ◌∷◌, ◌++◌, map, filter, length, count_by, refl, sym, ap, ◌∙◌}
use Rattle.std.proofs.lemmas.List.{map-append, append-nil}
use Rattle.std.proofs.lemmas.List.Elements.{filter-append}
use Rattle.std.proofs.lemmas.Bool.{and_parts}
use Rattle.card_set.specs.Known.{known_among, known_slots}
use Rattle.card_set.specs.declared.card.Card.{Card}
use Rattle.card_set.specs.declared.card.Slot.{Slot}
use Rattle.card_set.specs.declared.card.Slot.TheVariants as slots
use Rattle.card_set.proofs.Tests.{false_true}
use Rattle.play_event.specs.declared.code.Code.{Code}
use Rattle.play_event.specs.NameMatching.{matched_card, after_matching, discarded_now, is_named, unmatched_names, blanks_in, can_be_named, is_show_of_all}
use Rattle.play_event.specs.Past.{Past, Dealt, Boarded, Moved, Discarded, Shown, Mucked, is_folding}
use Rattle.play_event.specs.Places.{Place, is_same_owner, is_in_group, is_held_by, is_past_deck, is_up, places_dealt, after_fold, folded_place, gone_now}
use Rattle.play_event.specs.Table.{places_of}
use Rattle.play_event.specs.Held.{is_held, held_slots}
use Rattle.deal_core.specs.Board.{board_cards}

-- a card of a seat is not on the board
skip : (place : Place) (rest : List Place) → is_same_owner place.owner None ≡ false → held_slots None (place ∷ rest) ≡ held_slots None rest
skip place rest is = ap (λ (b : Bool). map (λ (p : Place). p.slot) (if (b && is_none place.gone_after) then (place ∷ filter (is_held None) rest) else filter (is_held None) rest)) is

keep : (place : Place) (xs ys : List Place) → held_slots None xs ≡ held_slots None ys → held_slots None (place ∷ xs) ≡ held_slots None (place ∷ ys)
keep place xs ys same = by_held (is_held None place)
  where
    by_held : (b : Bool) → map (λ (p : Place). p.slot) (if b then (place ∷ filter (is_held None) xs) else filter (is_held None) xs) ≡ map (λ (p : Place). p.slot) (if b then (place ∷ filter (is_held None) ys) else filter (is_held None) ys)
    by_held true = ap (λ (l : List Slot). place.slot ∷ l) same
    by_held false = same

seat_not_board : (owner : Option ℕ) (seat : ℕ) → is_same_owner owner (Some seat) ≡ true → is_same_owner owner None ≡ false
seat_not_board (Some other) seat is = refl
seat_not_board None seat is = false_true is

-- what a seat holds is not the board's
abbrev CoversSeats : (Place → Bool) → Type 0
CoversSeats covers = (place : Place) → covers place ≡ true → is_same_owner place.owner None ≡ false

abbrev KeepsOwner : (Place → Place) → Type 0
KeepsOwner mark = (place : Place) → (mark place).owner ≡ place.owner

names_board : (covers : Place → Bool) (mark : Place → Place) (names others : List Card) (blanks : ℕ) (placed : List Place) → CoversSeats covers → KeepsOwner mark → held_slots None (after_matching covers mark names others blanks placed) ≡ held_slots None placed
names_board covers mark names others blanks [] seats owner = refl
names_board covers mark names others blanks (place ∷ rest) seats owner = by_cover (covers place) refl (λ left n. names_board covers mark names left n rest seats owner)
  where
    both : (new : Place) (left : List Card) (n : ℕ) → is_same_owner place.owner None ≡ false → new.owner ≡ place.owner → held_slots None (after_matching covers mark names left n rest) ≡ held_slots None rest → held_slots None (new ∷ after_matching covers mark names left n rest) ≡ held_slots None (place ∷ rest)
    both new left n seat same later =
        skip new (after_matching covers mark names left n rest) (ap (λ (o : Option ℕ). is_same_owner o None) same ∙ seat) ∙ later ∙ sym (skip place rest seat)

    by_name : (b : Bool) → (if b then mark place else place).owner ≡ place.owner
    by_name true = owner place
    by_name false = refl

    by_slot : (slot : Slot) (left : List Card) (n : ℕ) → is_same_owner place.owner None ≡ false → ((left : List Card) (n : ℕ) → held_slots None (after_matching covers mark names left n rest) ≡ held_slots None rest) → held_slots None (let found = matched_card mark names slot left n place in found.place ∷ after_matching covers mark names found.others found.blanks rest) ≡ held_slots None (place ∷ rest)
    by_slot (slots.Known card) left n seat later = both (if is_named card names then mark place else place) left n seat (by_name (is_named card names)) (later left n)
    by_slot slots.Unknown (card ∷ left) n seat later = both (mark (record place { slot = slots.Known card })) left n seat (owner (record place { slot = slots.Known card })) (later left n)
    by_slot slots.Unknown [] zero seat later = both place [] 0 seat refl (later [] 0)
    by_slot slots.Unknown [] (suc n) seat later = both (mark place) [] n seat (owner place) (later [] n)

    by_cover : (b : Bool) → covers place ≡ b → ((left : List Card) (n : ℕ) → held_slots None (after_matching covers mark names left n rest) ≡ held_slots None rest) → held_slots None (if b then (let found = matched_card mark names place.slot others blanks place in found.place ∷ after_matching covers mark names found.others found.blanks rest) else (place ∷ after_matching covers mark names others blanks rest)) ≡ held_slots None (place ∷ rest)
    by_cover true is later = by_slot place.slot others blanks (seats place is) later
    by_cover false is later = keep place (after_matching covers mark names others blanks rest) rest (later others blanks)

held_seats : (seat : ℕ) → CoversSeats (is_held_by seat)
held_seats seat place is = seat_not_board place.owner seat (and_parts (is_same_owner place.owner (Some seat)) (is_none place.gone_after) is).0

fold_board : (seat count : ℕ) (placed : List Place) → held_slots None (map (folded_place seat count) placed) ≡ held_slots None placed
fold_board seat count [] = refl
fold_board seat count (place ∷ rest) = by_held (is_held_by seat place) refl (fold_board seat count rest)
  where
    by_held : (b : Bool) → is_held_by seat place ≡ b → held_slots None (map (folded_place seat count) rest) ≡ held_slots None rest → held_slots None ((if b then gone_now count place else place) ∷ map (folded_place seat count) rest) ≡ held_slots None (place ∷ rest)
    by_held true is later =
        let not_board = held_seats seat place is in
        skip (gone_now count place) (map (folded_place seat count) rest) not_board ∙ later ∙ sym (skip place rest not_board)
    by_held false is later = keep place (map (folded_place seat count) rest) rest later

seat_dealt : (seat street : ℕ) (past_deck : Bool) (index number : ℕ) (cards : List Slot) → held_slots None (places_dealt (Some seat) street past_deck index number cards) ≡ []
seat_dealt seat street past_deck index number [] = refl
seat_dealt seat street past_deck index number (slot ∷ rest) = seat_dealt seat street past_deck (index + 1) (number + 1) rest

board_dealt : (street : ℕ) (past_deck : Bool) (index number : ℕ) (cards : List Slot) → held_slots None (places_dealt None street past_deck index number cards) ≡ cards
board_dealt street past_deck index number [] = refl
board_dealt street past_deck index number (slot ∷ rest) = ap (λ (l : List Slot). slot ∷ l) (board_dealt street past_deck (index + 1) (number + 1) rest)

held-append : (xs ys : List Place) → held_slots None (xs ++ ys) ≡ held_slots None xs ++ held_slots None ys
held-append xs ys = ap (map (λ (p : Place). p.slot)) (filter-append (is_held None) xs ys) ∙ map-append (λ (p : Place). p.slot) (filter (is_held None) xs) (filter (is_held None) ys)

pub board_held : (code : Code) (past : Past) → held_slots None (places_of code past) ≡ known_slots (board_cards past)
board_held code [] = refl
board_held code (Dealt on seat cards ∷ before) =
    let placed = places_of code before in
    held-append placed (places_dealt (Some seat) on (is_past_deck code placed on) (count_by (is_in_group (Some seat) on) placed) (length placed) cards)
    ∙ ap (λ (l : List Slot). held_slots None placed ++ l) (seat_dealt seat on (is_past_deck code placed on) (count_by (is_in_group (Some seat) on) placed) (length placed) cards)
    ∙ append-nil (held_slots None placed) ∙ board_held code before
board_held code (Boarded on cards ∷ before) =
    let placed = places_of code before in
    held-append placed (places_dealt None on (is_past_deck code placed on) (count_by (is_in_group None on) placed) (length placed) (known_slots cards))
    ∙ ap (λ (l : List Slot). held_slots None placed ++ l) (board_dealt on (is_past_deck code placed on) (count_by (is_in_group None on) placed) (length placed) (known_slots cards))
    ∙ ap (λ (l : List Slot). l ++ known_slots cards) (board_held code before)
    ∙ sym (map-append (λ (card : Card). slots.Known card) (board_cards before) cards)
board_held code (Moved move ∷ before) = by_fold (is_folding move.act) (board_held code before)
  where
    by_fold : (b : Bool) → held_slots None (places_of code before) ≡ known_slots (board_cards before) → held_slots None (if b then after_fold move.seat (places_of code before) else places_of code before) ≡ known_slots (board_cards before)
    by_fold true later = fold_board move.seat (length (places_of code before)) (places_of code before) ∙ later
    by_fold false later = later
board_held code (Discarded on seat cards ∷ before) =
    let placed = places_of code before in
    names_board (is_held_by seat) (discarded_now on (length placed)) (known_among cards) (unmatched_names (filter (is_held_by seat) placed) (known_among cards)) (blanks_in cards) placed (held_seats seat) (λ place. refl)
    ∙ board_held code before
board_held code (Shown on seat cards ∷ before) =
    let placed = places_of code before in
    let all : Bool = is_show_of_all placed seat cards in
    let covers : Place → Bool = can_be_named code seat all in
    names_board covers (λ place. place) cards (unmatched_names (filter covers placed) cards) 0 placed
    (λ place is. held_seats seat place (and_parts (is_held_by seat place) (all || not (is_up code place)) is).0) (λ place. refl)
    ∙ board_held code before
board_held code (Mucked on seat ∷ before) = board_held code before
