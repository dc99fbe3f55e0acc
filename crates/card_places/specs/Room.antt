-- The most cards that an owner may have: of each street, and on the table.
use Rattle.std.specs.Prelude.{◌≡◌, ℕ, zero, suc, ◌+◌, ◌-◌, ◌≤◌, Bool, true, ◌&&◌, nat_le, if◌then◌else◌, List, count_by, Option, Some, None}
use Rattle.play_event.specs.declared.code.Code.{Code}
use Rattle.play_event.specs.Games.{game_of, hole_cards_on, board_cards_on, street_count}
use Rattle.play_event.specs.Streets.{has_draw}
use Rattle.play_event.specs.Places.{Place, is_in_group}
use Rattle.card_places.specs.declared.draws.Draws.{Draws}
use Rattle.card_places.specs.Drawn.{named_at}
use Rattle.play_event.specs.Held.{is_held}

-- the number is that of one of `seats` seats
abbrev pub is_seat_of : ℕ → ℕ → Bool
is_seat_of seats seat = nat_le 1 seat && nat_le seat seats

-- the street is one of the game
abbrev pub is_street : Code → ℕ → Bool
is_street code street = nat_le 1 street && nat_le street (street_count code)

-- the most cards that a seat may be dealt on the street: in a draw as many as a hand has
abbrev pub hole_most : Code → ℕ → ℕ
hole_most code street =
    if has_draw code street then (game_of code).hole else hole_cards_on code street

-- the most cards that an owner may be dealt on the street
abbrev pub most_of : Code → ℕ → Option ℕ → ℕ → ℕ
most_of code seats (Some seat) street =
    if is_seat_of seats seat && is_street code street then hole_most code street else 0
most_of code seats None street = if is_street code street then board_cards_on code street else 0

-- no owner was dealt more than its most cards on any street
abbrev pub IsWithin : Code → ℕ → List Place → Type 0
IsWithin code seats placed =
    (owner : Option ℕ) (street : ℕ)
    → count_by (is_in_group owner street) placed ≤ most_of code seats owner street

-- no seat discarded more cards in a draw than a hand has
abbrev pub AreNamedWithin : Code → Draws → Type 0
AreNamedWithin code draws =
    (street seat : ℕ) → street ≤ 5 → 1 ≤ seat → seat ≤ 10
    → named_at draws street seat ≤ (game_of code).hole

-- the number of cards of the street that an owner may still be dealt, in the deal or in a draw in
-- place of discards
abbrev pub may_come : Code → Draws → List Place → Option ℕ → ℕ → ℕ
may_come code draws placed (Some seat) street =
    (if has_draw code street then named_at draws street seat else hole_cards_on code street)
    - count_by (is_in_group (Some seat) street) placed
may_come code draws placed None street =
    board_cards_on code street - count_by (is_in_group None street) placed

-- the sum over a number of streets, from the first on
abbrev pub sum_from : (ℕ → ℕ) → ℕ → ℕ → ℕ
sum_from f first zero = 0
sum_from f first (suc n) = f first + sum_from f (first + 1) n

-- the most cards that an owner has on the table: a hand, or a board
abbrev pub held_most : Code → Option ℕ → ℕ
held_most code (Some seat) = (game_of code).hole
held_most code None = (game_of code).board

-- an owner is a seat of the hand, or the board
abbrev pub is_owner : ℕ → Option ℕ → Bool
is_owner seats (Some seat) = is_seat_of seats seat
is_owner seats None = true

-- what an owner has on the table, with all that it may still be dealt, is no more than a hand or a
-- board
abbrev pub AreHeldWithin : Code → ℕ → Draws → List Place → Type 0
AreHeldWithin code seats draws placed =
    (owner : Option ℕ) → is_owner seats owner ≡ true
    → count_by (is_held owner) placed
    + sum_from (may_come code draws placed owner) 1 (street_count code)
    ≤ held_most code owner

-- `count` cards of the street may be dealt to an owner
pub record IsOwed (code : Code) (seats : ℕ) (draws : Draws) (placed : List Place) (owner : Option ℕ)
    (street count : ℕ) : Type 0 where
  pub owner_in : is_owner seats owner ≡ true
  pub street_in : is_street code street ≡ true
  pub some : 1 ≤ count
  pub few : count ≤ may_come code draws placed owner street
