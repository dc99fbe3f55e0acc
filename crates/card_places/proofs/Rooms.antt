-- If each owner has at most its cards of each street, 120 rooms are enough for all.
use Rattle.std.proofs.Common.{◌≡◌, ℕ, suc, ◌+◌, ◌*◌, ◌≤◌, Bool, true, false, ◌&&◌, ◌==◌, nat_le, cond, inl, inr, if◌then◌else◌, Option, Some, None, List, [], ◌∷◌, ◌++◌, length, count_by, refl, ap, subst, ◌∙◌, arith, length-append}
use Rattle.std.proofs.lemmas.Bool.{and_parts, leb-true, eqb-true, eq-eqb}
use Rattle.std.proofs.lemmas.List.Sums.{length-filter}
use Rattle.card_set.proofs.Counting.{count_by-cons}
use Rattle.card_set.specs.declared.card.Slot.{Slot}
use Rattle.play_event.specs.declared.code.Code.{Code}
use Rattle.play_event.specs.declared.code.Code.TheVariants as games
use Rattle.play_event.specs.Games.{game_of, board_cards_on, street_count}
use Rattle.play_event.specs.Places.{Place, is_same_owner, is_in_group, places_dealt}
use Rattle.play_event.proofs.OwnerLaws.{is_same_owner-self, is_same_owner-true}
use Rattle.play_event.specs.Laws.{IsAmong}
use Rattle.card_places.specs.Room.{is_seat_of, is_street, hole_most, most_of, IsWithin, sum_from, is_owner}
use Rattle.play_laws.proofs.Groups.{deal_group}
use Rattle.card_places.proofs.Sums.{sum_least, sum_more, sum_most}
use Rattle.card_set.proofs.Tests.{if_most}

-- all cards of a street, by owner
abbrev pub on_street : ℕ → List Place → ℕ → ℕ
on_street seats placed street = count_by (is_in_group None street) placed + sum_from (λ seat. count_by (is_in_group (Some seat) street) placed) 1 seats

-- all cards, by street and owner
abbrev pub total : Code → ℕ → List Place → ℕ
total code seats placed = sum_from (on_street seats placed) 1 (street_count code)

one_more : (p : Place → Bool) (place : Place) (rest : List Place) → count_by p rest ≤ count_by p (place ∷ rest)
one_more p place rest = omega (arith, count_by-cons p place rest)

this_more : (p : Place → Bool) (place : Place) (rest : List Place) → p place ≡ true → count_by p rest + 1 ≤ count_by p (place ∷ rest)
this_more p place rest is = let one : ◌≡◌ {A = ℕ} (cond (p place) 1 0) 1 = ap (λ b. cond b 1 0) is in omega (arith, count_by-cons p place rest, one)

-- a place is on a street of the game, and belongs to a seat of the hand or to the board
record IsInside (code : Code) (seats : ℕ) (place : Place) : Type 0 where
  owner : is_owner seats place.owner ≡ true
  first : 1 ≤ place.street
  last : place.street ≤ street_count code

pub seat_parts : (seats seat : ℕ) → is_seat_of seats seat ≡ true → (1 ≤ seat) × (seat ≤ seats)
seat_parts seats seat is =
    let parts = and_parts (nat_le 1 seat) (nat_le seat seats) is in
    (leb-true 1 seat parts.0, leb-true seat seats parts.1)

in_own : (owner : Option ℕ) (street : ℕ) → (is_same_owner owner owner && (street == street)) ≡ true
in_own owner street = ap (λ b. b && (street == street)) (is_same_owner-self owner) ∙ eq-eqb street street refl

street_least : (seats : ℕ) (place : Place) (rest : List Place) (street : ℕ) → on_street seats rest street ≤ on_street seats (place ∷ rest) street
street_least seats place rest street =
    omega (arith, one_more (is_in_group None street) place rest, sum_least (λ seat. count_by (is_in_group (Some seat) street) (place ∷ rest)) (λ seat. count_by (is_in_group (Some seat) street) rest) 1 seats (λ seat from. one_more (is_in_group (Some seat) street) place rest))

street_more : (seats : ℕ) (place : Place) (rest : List Place) (owner : Option ℕ) → place.owner ≡ owner → is_owner seats owner ≡ true → on_street seats rest place.street + 1 ≤ on_street seats (place ∷ rest) place.street
street_more seats place rest None is inside =
    omega (arith, this_more (is_in_group None place.street) place rest (ap (λ o. is_same_owner o None && (place.street == place.street)) is ∙ in_own None place.street), sum_least (λ seat. count_by (is_in_group (Some seat) place.street) (place ∷ rest)) (λ seat. count_by (is_in_group (Some seat) place.street) rest) 1 seats (λ seat from. one_more (is_in_group (Some seat) place.street) place rest))
street_more seats place rest (Some seat) is inside =
    let parts = seat_parts seats seat inside in
    omega (
      arith,
      one_more (is_in_group None place.street) place rest,
      sum_more (λ k. count_by (is_in_group (Some k) place.street) (place ∷ rest)) (λ k. count_by (is_in_group (Some k) place.street) rest) 1 seats seat 1 (λ k. one_more (is_in_group (Some k) place.street) place rest) parts.0 (omega (arith, parts.1))
          (this_more (is_in_group (Some seat) place.street) place rest (ap (λ o. is_same_owner o (Some seat) && (place.street == place.street)) is ∙ in_own (Some seat) place.street)),
    )

total_more : (code : Code) (seats : ℕ) (place : Place) (rest : List Place) → IsInside code seats place → total code seats rest + 1 ≤ total code seats (place ∷ rest)
total_more code seats place rest inside =
    sum_more (on_street seats (place ∷ rest)) (on_street seats rest) 1 (street_count code) place.street 1 (street_least seats place rest) inside.first (omega (arith, inside.last)) (street_more seats place rest place.owner refl inside.owner)

length_total : (code : Code) (seats : ℕ) (placed : List Place) → ((place : Place) → IsAmong placed place → IsInside code seats place) → length placed ≤ total code seats placed
length_total code seats [] inside = omega arith
length_total code seats (place ∷ rest) inside =
    omega (arith, total_more code seats place rest (inside place (inl refl)), length_total code seats rest (λ other among. inside other (inr among)))

some_in : (p : Place → Bool) (placed : List Place) (place : Place) → IsAmong placed place → p place ≡ true → 1 ≤ count_by p placed
some_in p [] place among is = absurd among
some_in p (first ∷ rest) place (inl same) is = omega (arith, this_more p first rest (ap p same ∙ is))
some_in p (first ∷ rest) place (inr among) is = omega (arith, one_more p first rest, some_in p rest place among is)

positive : (b : Bool) (n : ℕ) → 1 ≤ (if b then n else 0) → b ≡ true
positive true n some = refl
positive false n some = absurd (omega (arith, some))

pub street_parts : (code : Code) (street : ℕ) → is_street code street ≡ true → (1 ≤ street) × (street ≤ street_count code)
street_parts code street is =
    let parts = and_parts (nat_le 1 street) (nat_le street (street_count code)) is in
    (leb-true 1 street parts.0, leb-true street (street_count code) parts.1)

inside_by : (code : Code) (seats : ℕ) (place : Place) (owner : Option ℕ) → place.owner ≡ owner → 1 ≤ most_of code seats owner place.street → IsInside code seats place
inside_by code seats place None is some =
    let at = street_parts code place.street (positive (is_street code place.street) (board_cards_on code place.street) some) in
    record { owner = ap (is_owner seats) is; first = at.0; last = at.1 }
inside_by code seats place (Some seat) is some =
    let both = and_parts (is_seat_of seats seat) (is_street code place.street) (positive (is_seat_of seats seat && is_street code place.street) (hole_most code place.street) some) in
    let at = street_parts code place.street both.1 in
    record { owner = ap (is_owner seats) is ∙ both.0; first = at.0; last = at.1 }

inside : (code : Code) (seats : ℕ) (placed : List Place) → IsWithin code seats placed → (place : Place) → IsAmong placed place → IsInside code seats place
inside code seats placed within place among =
    inside_by code seats place place.owner refl (omega (arith, within place.owner place.street, some_in (is_in_group place.owner place.street) placed place among (in_own place.owner place.street)))

-- all cards are counted by street and owner
pub all_counted : (code : Code) (seats : ℕ) (placed : List Place) → IsWithin code seats placed → length placed ≤ total code seats placed
all_counted code seats placed within = length_total code seats placed (inside code seats placed within)

-- the most cards of a street
abbrev street_most : Code → ℕ → ℕ → ℕ
street_most code seats street = board_cards_on code street + seats * hole_most code street

on_street_most : (code : Code) (seats : ℕ) (placed : List Place) → IsWithin code seats placed → (street : ℕ) → on_street seats placed street ≤ street_most code seats street
on_street_most code seats placed within street =
    omega (
      arith,
      within None street,
      if_most (is_street code street) (board_cards_on code street),
      sum_most (λ seat. count_by (is_in_group (Some seat) street) placed) (hole_most code street) 1 seats
          (λ seat. omega (arith, within (Some seat) street, if_most (is_seat_of seats seat && is_street code street) (hole_most code street))),
    )

game_most : (code : Code) (seats : ℕ) → seats ≤ (game_of code).seats → sum_from (street_most code seats) 1 (street_count code) ≤ 120
game_most games.FT seats few = omega (arith, few)
game_most games.NT seats few = omega (arith, few)
game_most games.NS seats few = omega (arith, few)
game_most games.PO seats few = omega (arith, few)
game_most games.FO8 seats few = omega (arith, few)
game_most games.F7S seats few = omega (arith, few)
game_most games.F7S8 seats few = omega (arith, few)
game_most games.FR seats few = omega (arith, few)
game_most games.N2L1D seats few = omega (arith, few)
game_most games.F2L3D seats few = omega (arith, few)
game_most games.FB seats few = omega (arith, few)

-- this number of rooms is enough
pub enough : (code : Code) (seats : ℕ) (placed : List Place) → seats ≤ (game_of code).seats → IsWithin code seats placed → length placed ≤ 120
enough code seats placed few within =
    omega (arith, all_counted code seats placed within, sum_least (street_most code seats) (on_street seats placed) 1 (street_count code) (λ k from. on_street_most code seats placed within k), game_most code seats few)

-- after a deal of at most the rest
dealt_within : (b : Bool) (n k most : ℕ) → k ≤ most → (b ≡ true → k + n ≤ most) → (if b then n else 0) + k ≤ most
dealt_within true n k most less fits = omega (arith, fits refl)
dealt_within false n k most less fits = omega (arith, less)

pub group_more : (owner to : Option ℕ) (street on : ℕ) (past_deck : Bool) (index number : ℕ) (cards : List Slot) (placed : List Place) → count_by (is_in_group owner street) (placed ++ places_dealt to on past_deck index number cards) ≡ (if is_same_owner to owner && (on == street) then length cards else 0) + count_by (is_in_group owner street) placed
group_more owner to street on past_deck index number cards placed =
    omega (arith, deal_group owner to street on past_deck index number cards placed, length-filter (is_in_group owner street) placed, length-filter (is_in_group owner street) (placed ++ places_dealt to on past_deck index number cards))

pub within_deal : (code : Code) (seats : ℕ) (placed : List Place) (to : Option ℕ) (on : ℕ) (past_deck : Bool) (index number : ℕ) (cards : List Slot) → IsWithin code seats placed → count_by (is_in_group to on) placed + length cards ≤ most_of code seats to on → IsWithin code seats (placed ++ places_dealt to on past_deck index number cards)
within_deal code seats placed to on past_deck index number cards within fits owner street =
    let before : ℕ = count_by (is_in_group owner street) placed in
    let here : (if is_same_owner to owner && (on == street) then length cards else 0) + before ≤ most_of code seats owner street =
    dealt_within (is_same_owner to owner && (on == street)) (length cards) before (most_of code seats owner street) (within owner street)
    (λ is. let parts = and_parts (is_same_owner to owner) (on == street) is in
    subst (λ (o : Option ℕ). count_by (is_in_group o street) placed + length cards ≤ most_of code seats o street) (is_same_owner-true to owner parts.0)
    (subst (λ (s : ℕ). count_by (is_in_group to s) placed + length cards ≤ most_of code seats to s) (eqb-true on street parts.1) fits)) in
    omega (arith, here, group_more owner to street on past_deck index number cards placed)

-- and so there is room for the cards
pub room : (code : Code) (seats : ℕ) (placed : List Place) (to : Option ℕ) (on : ℕ) (cards : List Slot) → seats ≤ (game_of code).seats → IsWithin code seats placed → count_by (is_in_group to on) placed + length cards ≤ most_of code seats to on → length placed + length cards ≤ 120
room code seats placed to on cards few within fits =
    let all : List Place = placed ++ places_dealt to on false 0 0 cards in
    omega (arith, enough code seats all few (within_deal code seats placed to on false 0 0 cards within fits), length-append placed (places_dealt to on false 0 0 cards), dealt_length to on false 0 0 cards)
  where
    dealt_length : (to : Option ℕ) (on : ℕ) (past_deck : Bool) (index number : ℕ) (cards : List Slot) → length (places_dealt to on past_deck index number cards) ≡ length cards
    dealt_length to on past_deck index number [] = refl
    dealt_length to on past_deck index number (card ∷ rest) = ap suc (dealt_length to on past_deck (index + 1) (number + 1) rest)
