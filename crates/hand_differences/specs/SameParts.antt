-- When a part of one hand is the same as that part of another hand.
use Rattle.std.specs.Prelude.{ℕ, Bool, true, false, not, ◌&&◌, ◌==◌, List, [], ◌∷◌, bytes_eq, Option, Some, None, option_map}
use Rattle.card_set.specs.Deck.{is_same_card}
use Rattle.card_set.specs.declared.card.Slot.{Slot}
use Rattle.card_set.specs.declared.card.Slot.TheVariants as slots
use Rattle.hand_canon.specs.declared.notes.Clock.{Clock}
use Rattle.play_event.specs.Places.{is_same_owner}
use Rattle.play_event.specs.declared.played.Act.{Act}
use Rattle.play_event.specs.declared.played.Act.TheVariants as acts
use Rattle.play_event.specs.declared.played.Move.{Move}
use Rattle.play_event.specs.declared.played.Place.{Place}

-- both are true, or both are false
abbrev pub is_same_test : Bool → Bool → Bool
is_same_test true b = b
is_same_test false b = not b

-- both are missing, or both are there and the same
abbrev pub is_same_option : {A : Type 0} → (A → A → Bool) → Option A → Option A → Bool
is_same_option same None None = true
is_same_option same None (Some b) = false
is_same_option same (Some a) None = false
is_same_option same (Some a) (Some b) = same a b

-- the lists have the same length, and their entries are the same, one by one
abbrev pub are_same_entries : {A : Type 0} → (A → A → Bool) → List A → List A → Bool
are_same_entries same [] [] = true
are_same_entries same [] (y ∷ ys) = false
are_same_entries same (x ∷ xs) [] = false
are_same_entries same (x ∷ xs) (y ∷ ys) = same x y && are_same_entries same xs ys

-- two optional numbers are the same
abbrev pub is_same_number : Option ℕ → Option ℕ → Bool
is_same_number = is_same_option (λ a b. a == b)

-- two optional texts, or lists of seat numbers, are the same
abbrev pub is_same_text : Option (List ℕ) → Option (List ℕ) → Bool
is_same_text = is_same_option bytes_eq

-- two times of day are the same
abbrev pub is_same_clock : Clock → Clock → Bool
is_same_clock a b =
    (a.hour == b.hour) && (a.minute == b.minute) && (a.second == b.second) && (a.nano == b.nano)

-- two acts are the same
abbrev pub is_same_act : Act → Act → Bool
is_same_act acts.Fold acts.Fold = true
is_same_act acts.Call acts.Call = true
is_same_act acts.Raise acts.Raise = true
is_same_act acts.BringIn acts.BringIn = true
is_same_act _ _ = false

-- two moves are the same: on the same street, by the same seat, with the same amounts
abbrev pub is_same_move : Move → Move → Bool
is_same_move a b =
    (a.street == b.street) && (a.seat.number == b.seat.number) && is_same_act a.act b.act
    && (a.from == b.from) && (a.to == b.to) && (a.price == b.price)
    && is_same_test a.closed b.closed && (a.unit_to == b.unit_to)

-- both are the same known card, or both are unknown
abbrev pub is_same_slot : Slot → Slot → Bool
is_same_slot (slots.Known a) (slots.Known b) = is_same_card a b
is_same_slot (slots.Known a) slots.Unknown = false
is_same_slot slots.Unknown (slots.Known b) = false
is_same_slot slots.Unknown slots.Unknown = true

-- the seat that a card was dealt to, or none for the board
abbrev pub owner_of : Place → Option ℕ
owner_of place = option_map (λ seat. seat.number) place.owner

-- two dealt cards are the same: the same owner, street and card, discarded in the same draw
abbrev pub is_same_place : Place → Place → Bool
is_same_place a b =
    is_same_owner (owner_of a) (owner_of b) && (a.street == b.street)
    && is_same_slot a.slot b.slot && (a.gone == b.gone)
