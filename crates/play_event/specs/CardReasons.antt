-- Why cards may not be dealt, discarded or shown now. Amounts play no part here.
use Rattle.std.specs.Prelude.{ℕ, ◌+◌, Bool, false, ◌&&◌, ◌||◌, ◌==◌, nat_lt, nat_le, not, List, length, filter, count_by}
use Rattle.std.specs.Option.{option_map_or}
use Rattle.std.specs.List.{list_any}
use Rattle.card_set.specs.declared.card.Card.{Card}
use Rattle.card_set.specs.declared.card.Slot.{Slot}
use Rattle.card_set.specs.declared.card.Slot.TheVariants as slots
use Rattle.play_event.specs.declared.code.Code.{Code}
use Rattle.play_event.specs.declared.setup.Setup.{Setup}
use Rattle.play_event.specs.Said as said
use Rattle.play_event.specs.Said.{Said}
use Rattle.play_event.specs.Past.{Past}
use Rattle.play_event.specs.Dealing.{cards_owed, board_cards_owed, next_to_draw}
use Rattle.play_event.specs.Showing.{has_to_show}
use Rattle.card_set.specs.Known.{hides_card, known_among, known_slots}
use Rattle.play_event.specs.Places.{Place, is_held_by}
use Rattle.play_event.specs.NameMatching.{unmatched_names, is_named, blanks_in, held_count, held_down_count, can_be_named, is_show_of_all, after_discard, after_show}
use Rattle.play_event.specs.Table.{up_cards}
use Rattle.play_event.specs.Taken.{has_taken_card, has_misplaced_card}

-- the number is that of a seat of the hand
abbrev pub is_seat : Setup → ℕ → Bool
is_seat setup seat = nat_le 1 seat && nat_le seat setup.stacks.seats

-- a seat is due no card
abbrev pub is_owed_nothing : Setup → Past → ℕ → ℕ → Bool
is_owed_nothing setup past street seat =
    not (is_seat setup seat) || (cards_owed setup past street seat == 0)

-- a seat is the next to draw
abbrev pub is_next_to_draw : Setup → Past → ℕ → ℕ → Bool
is_next_to_draw setup past street seat =
    option_map_or (λ next. next == seat) (next_to_draw setup past street) false

-- a seat of the hand is live, and has not shown or mucked
abbrev pub may_show : Setup → Past → ℕ → Bool
may_show setup past seat = is_seat setup seat && has_to_show past seat

-- a deal has no card, or more cards than are due
abbrev pub is_wrong_deal : ℕ → ℕ → Bool
is_wrong_deal owed count = (count == 0) || nat_lt owed count

-- a show may have this number of cards: all that the seat holds, or only its down-cards if its
-- up-cards are known
abbrev pub may_show_so_many : Setup → Past → List Place → ℕ → ℕ → Bool
may_show_so_many setup past placed seat count =
    (count == held_count placed seat)
    || ((count == held_down_count setup.code placed seat)
    && not (list_any hides_card (up_cards setup.code past seat)))

-- an event has a number of cards that it may not have
abbrev pub is_wrong_count : Setup → Past → List Place → ℕ → Said → Bool
is_wrong_count setup past placed street (said.Hole seat cards) =
    is_wrong_deal (cards_owed setup past street seat) (length cards)
is_wrong_count setup past placed street (said.Board cards) =
    is_wrong_deal (board_cards_owed setup past street) (length cards)
is_wrong_count setup past placed street (said.Discard seat cards) =
    nat_lt (held_count placed seat) (length cards)
is_wrong_count setup past placed street (said.Show seat cards) =
    not (may_show_so_many setup past placed seat (length cards))
is_wrong_count setup past placed street _ = false

-- a card that is dealt, or that is named and turns an unknown card into a known one, is already out
-- or not in the deck
abbrev pub is_card_taken : Code → List Place → ℕ → Said → Bool
is_card_taken code placed street (said.Hole seat cards) = has_taken_card code placed street cards
is_card_taken code placed street (said.Board cards) =
    has_taken_card code placed street (known_slots cards)
is_card_taken code placed street (said.Discard seat cards) =
    has_misplaced_card code placed (after_discard street seat cards placed)
is_card_taken code placed street (said.Show seat cards) =
    has_misplaced_card code placed (after_show code seat cards placed)
is_card_taken code placed street _ = false

-- the names cannot be matched: the named cards that are not among the seat's known cards, and the
-- blanks, are together more than its unknown cards
abbrev pub has_no_place : List Place → List Card → ℕ → Bool
has_no_place covered names blanks =
    nat_lt (count_by (λ place. hides_card place.slot) covered)
    (length (unmatched_names covered names) + blanks)

-- a known card is not named
abbrev pub is_left_out : List Card → Slot → Bool
is_left_out names (slots.Known card) = not (is_named card names)
is_left_out names slots.Unknown = false

-- a show names a card that the seat does not hold, or does not name a known card
abbrev pub is_show_of_others : List Place → List Card → Bool
is_show_of_others covered names =
    has_no_place covered names 0 || list_any (λ place. is_left_out names place.slot) covered

-- a card is named that the seat does not hold
abbrev pub is_not_held : Code → List Place → Said → Bool
is_not_held code placed (said.Discard seat cards) =
    has_no_place (filter (is_held_by seat) placed) (known_among cards) (blanks_in cards)
is_not_held code placed (said.Show seat cards) =
    is_show_of_others (filter (can_be_named code seat (is_show_of_all placed seat cards)) placed)
    cards
is_not_held code placed _ = false
