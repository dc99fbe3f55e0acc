-- What the trace of a hand keeps of its past: the moves, the dealt cards, and who showed and who
-- mucked.
use Rattle.std.specs.Prelude.{ℕ, Bool, ◌&&◌, nat_le, not, List, [], ◌∷◌, ◌++◌, map, filter, flat_map, Option, Some, None}
use Rattle.std.specs.List.{list_any, range_with_len}
use Rattle.card_set.specs.declared.card.Slot.{Slot}
use Rattle.play_event.specs.declared.setup.Setup.{Setup}
use Rattle.play_event.specs.declared.limit.Limit.{Limit}
use Rattle.play_event.specs.declared.limit.Limit.TheVariants as limits
use Rattle.play_event.specs.Games.{street_count}
use Rattle.play_event.specs.Streets.{limit_of}
use Rattle.play_event.specs.Past.{Past, Move, Act, moves_of, is_raising}
use Rattle.play_event.specs.Seats.{is_live, live_count, all_seats}
use Rattle.play_event.specs.CurrentBet.{current_bet}
use Rattle.play_event.specs.Amounts.{unit_target}
use Rattle.play_event.specs.Raising.{is_closed}
use Rattle.play_event.specs.Showing.{has_mucked}
use Rattle.card_set.specs.Known.{hides_card}
use Rattle.play_event.specs.Places.{Place, is_in_group, is_held_by}
use Rattle.play_event.specs.Table.{places_of}

-- A move of the trace: the chips that its seat had put in on the street before it and after it; the
-- current bet before it; whether it is legal only if betting always reopens; and the target of a
-- raise by the street's bet size in fixed limit, or 0.
pub record TracedMove : Type 0 where
  pub street : ℕ
  pub seat : ℕ
  pub act : Act
  pub from : ℕ
  pub to : ℕ
  pub price : ℕ
  pub closed : Bool
  pub unit_to : ℕ

-- the target of a raise by the street's bet size, in fixed limit only
abbrev pub unit_target_in : Limit → Setup → List Move → ℕ → ℕ → ℕ
unit_target_in limits.Fixed setup moves street seat = unit_target setup moves street seat
unit_target_in limits.Pot setup moves street seat = 0
unit_target_in limits.No setup moves street seat = 0

-- a move after those before it
abbrev pub traced_move : Setup → Move → List Move → TracedMove
traced_move setup move before =
    record {
      street = move.street;
      seat = move.seat;
      act = move.act;
      from = move.from;
      to = move.to;
      price = current_bet setup before move.street;
      closed = is_raising move.act && is_closed setup before move.street move.seat move.to;
      unit_to = unit_target_in (limit_of setup.code) setup before move.street move.seat;
    }

-- the moves, the oldest first
abbrev pub traced_moves : Setup → List Move → List TracedMove
traced_moves setup [] = []
traced_moves setup (move ∷ before) = traced_moves setup before ++ traced_move setup move before ∷ []

-- A dealt card of the trace: its owner, the street on which it was dealt, the card, if it is known,
-- and the street of the draw that discarded it, or 0.
pub record TracedPlace : Type 0 where
  pub owner : Option ℕ
  pub street : ℕ
  pub slot : Slot
  pub discarded : ℕ

-- what the trace keeps of a dealt card
abbrev pub traced_place : Place → TracedPlace
traced_place place =
    record {
      owner = place.owner;
      street = place.street;
      slot = place.slot;
      discarded = place.discarded;
    }

-- the owners of cards: the seats from p1 upward, and then the board
abbrev pub owners : Setup → List (Option ℕ)
owners setup = map Some (all_seats setup) ++ None ∷ []

-- the streets of the game
abbrev pub streets_of : Setup → List ℕ
streets_of setup = range_with_len 1 (street_count setup.code)

-- the dealt cards of one street, owner by owner
abbrev pub places_on : Setup → List Place → ℕ → List Place
places_on setup placed street =
    flat_map (λ owner. filter (is_in_group owner street) placed) (owners setup)

-- the dealt cards by street, then by owner, then in the order of dealing
abbrev pub ordered_places : Setup → Past → List Place
ordered_places setup past =
    flat_map (places_on setup (places_of setup.code past)) (streets_of setup)

-- the dealt cards of the trace
abbrev pub traced_places : Setup → Past → List TracedPlace
traced_places setup past = map traced_place (ordered_places setup past)

-- the hand is contested: at least two seats are live at its end
abbrev pub is_contested : Setup → Past → Bool
is_contested setup past = nat_le 2 (live_count setup (moves_of past))

-- a card that a seat holds is unknown
abbrev pub has_unknown_card : Setup → Past → ℕ → Bool
has_unknown_card setup past seat =
    list_any (λ place. is_held_by seat place && hides_card place.slot) (places_of setup.code past)

-- a live seat of a contested hand is shown if it did not muck and all its cards are known
abbrev pub is_shown : Setup → Past → ℕ → Bool
is_shown setup past seat =
    is_contested setup past && is_live (moves_of past) seat && not (has_mucked past seat)
    && not (has_unknown_card setup past seat)

-- a live seat of a contested hand that is not shown is mucked
abbrev pub is_mucked : Setup → Past → ℕ → Bool
is_mucked setup past seat =
    is_contested setup past && is_live (moves_of past) seat && not (is_shown setup past seat)
