-- The rounds of a hand that is written: the streets that were dealt, each with its board cards and
-- actions, and the showdown.
use Rattle.std.specs.Prelude.{ℕ, List, [], ◌∷◌, ◌++◌, None, map}
use Rattle.card_set.specs.declared.card.Slot.{Slot}
use Rattle.card_set.specs.Row.{slots_of}
use Rattle.play_event.specs.CanonScript.{dealt_slots}
use Rattle.hand_canon.specs.declared.trace.Trace.{Trace}
use Rattle.hand_canon.specs.TraceRows.{core_said}
use Rattle.ohh_members.specs.declared.dialect.Dialect.{Dialect}
use Rattle.ohh_writing.specs.declared.action.Round.{Round}
use Rattle.ohh_members.specs.declared.street.StreetName.{StreetName}
use Rattle.ohh_members.specs.declared.street.StreetName.TheVariants as streets
use Rattle.ohh_writing.specs.Actions.{PlainAction, action_said, deals, moves_written, posts, showings}

-- a round: its street, the cards that it deals to the board, and its actions
pub record PlainRound : Type 0 where
  pub street : StreetName
  pub cards : List Slot
  pub actions : List PlainAction

-- a round, as the definitions see it
abbrev pub round_said : Round → PlainRound
round_said round =
    record {
      street = round.street;
      cards = slots_of round.cards;
      actions = map action_said round.actions.items;
    }

-- a round with these cards and actions
abbrev pub round : StreetName → List Slot → List PlainAction → PlainRound
round street cards actions = record { street = street; cards = cards; actions = actions }

-- the moves of the street with this number
abbrev pub moves_on : Dialect → Trace → ℕ → List PlainAction
moves_on dialect trace number = moves_written dialect trace.setup number [] (core_said trace).moves

-- the first round: the posts, the deals to the seats, and the moves
abbrev pub first_actions : Dialect → Trace → List PlainAction
first_actions dialect trace =
    posts trace.setup ++ (deals trace.setup (core_said trace).places ++ moves_on dialect trace 1)

-- a round of a street, if its cards were dealt to the board
abbrev pub board_round : StreetName → List Slot → List PlainAction → List PlainRound
board_round street [] actions = []
board_round street (slot ∷ rest) actions = round street (slot ∷ rest) actions ∷ []

-- the round of the board street with this number
abbrev pub board_round_on : Dialect → Trace → StreetName → ℕ → List PlainRound
board_round_on dialect trace street number =
    board_round street (dealt_slots (core_said trace).places None number)
    (moves_on dialect trace number)

-- the showdown, if there is one
abbrev pub showdown_round : List PlainAction → List PlainRound
showdown_round [] = []
showdown_round (action ∷ rest) = round streets.Showdown [] (action ∷ rest) ∷ []

-- the rounds of a hand
unfoldable pub hand_rounds : Dialect → Trace → List PlainRound
hand_rounds dialect trace =
    round streets.Preflop [] (first_actions dialect trace)
    ∷ (board_round_on dialect trace streets.Flop 2
    ++ (board_round_on dialect trace streets.Turn 3
    ++ (board_round_on dialect trace streets.River 4
    ++ showdown_round (showings trace))))
