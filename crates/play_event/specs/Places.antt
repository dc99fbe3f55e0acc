-- The dealt cards: whose each one is, what is known of it, and whether it is gone, that is,
-- discarded or folded. Amounts play no part here.
use Rattle.std.specs.Prelude.{ℕ, ◌+◌, Bool, true, false, ◌&&◌, ◌==◌, nat_lt, nat_le, if◌then◌else◌, List, [], ◌∷◌, ◌++◌, map, filter, length, count_by, Option, Some, None, is_none}
use Rattle.card_set.specs.declared.card.Slot.{Slot}
use Rattle.play_event.specs.declared.code.Code.{Code}
use Rattle.play_event.specs.Streets.{deck_of, has_draw, down_cards_on, up_cards_on}

-- A dealt card: its owner, a seat or the board; its street; how many cards of that street its owner
-- had before it, and how many cards were dealt before it in all; the card, if it is known; whether
-- it was dealt past the deck; how many cards had been dealt when it was discarded or folded, if it
-- was; and the street of the draw that discarded it, or 0.
pub record Place : Type 0 where
  pub owner : Option ℕ
  pub street : ℕ
  pub index : ℕ
  pub number : ℕ
  pub slot : Slot
  pub past_deck : Bool
  pub gone_after : Option ℕ
  pub discarded : ℕ

-- two owners are the same: the same seat, or the board
abbrev pub is_same_owner : Option ℕ → Option ℕ → Bool
is_same_owner (Some seat) (Some other) = seat == other
is_same_owner None None = true
is_same_owner (Some seat) None = false
is_same_owner None (Some other) = false

-- the card was dealt to this owner on this street
abbrev pub is_in_group : Option ℕ → ℕ → Place → Bool
is_in_group owner street place = is_same_owner place.owner owner && (place.street == street)

-- those of some dealt cards
abbrev pub group_of : List Place → ℕ → Option ℕ → List Place
group_of placed street owner = filter (is_in_group owner street) placed

-- the cards that are dealt to one owner in one event: indices and numbers count up
abbrev pub places_dealt : Option ℕ → ℕ → Bool → (index number : ℕ) → List Slot → List Place
places_dealt owner street late index number [] = []
places_dealt owner street late index number (slot ∷ rest) =
    record {
      owner = owner;
      street = street;
      index = index;
      number = number;
      slot = slot;
      past_deck = late;
      gone_after = None;
      discarded = 0;
    }
    ∷ places_dealt owner street late (index + 1) (number + 1) rest

-- A card that is dealt now on this street is dealt past the deck: it is dealt in a draw, and the
-- cards dealt before the draw and those discarded so far in it are together more than the deck has.
abbrev pub is_past_deck : Code → List Place → ℕ → Bool
is_past_deck code placed street =
    has_draw code street
    && nat_lt (deck_of code)
    (count_by (λ place. nat_lt place.street street) placed
    + count_by (λ place. place.discarded == street) placed)

-- the dealt cards after a deal
abbrev pub after_deal : Code → Option ℕ → ℕ → List Slot → List Place → List Place
after_deal code owner street cards placed =
    placed
    ++ places_dealt owner street (is_past_deck code placed street)
    (count_by (is_in_group owner street) placed) (length placed) cards

-- a seat holds the card: it was dealt to it, and is not discarded or folded
abbrev pub is_held_by : ℕ → Place → Bool
is_held_by seat place = is_same_owner place.owner (Some seat) && is_none place.gone_after

-- a card is gone from now on, after this number of dealt cards, if it was not gone before
abbrev pub gone_now : ℕ → Place → Place
gone_now count place = record place { gone_after = Some count }

-- a card after this seat folds
abbrev pub folded_place : ℕ → ℕ → Place → Place
folded_place seat count place = if is_held_by seat place then gone_now count place else place

-- the dealt cards after a fold: those of the seat are gone
abbrev pub after_fold : ℕ → List Place → List Place
after_fold seat placed = map (folded_place seat (length placed)) placed

-- a card was dealt face up: on each street the down-cards are dealt first
abbrev pub is_up : Code → Place → Bool
is_up code place =
    nat_lt 0 (up_cards_on code place.street) && nat_le (down_cards_on code place.street) place.index

-- the up-cards of a seat
abbrev pub up_slots : Code → List Place → ℕ → List Slot
up_slots code placed seat =
    map (λ place. place.slot) (filter (λ place. is_held_by seat place && is_up code place) placed)
