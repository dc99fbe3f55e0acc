-- Traces as lists of numbers, so that two can be compared by computation.
use Rattle.std.specs.Prelude.{ℕ, suc, Bool, true, false, ◌==◌, if◌then◌else◌, List, [], ◌∷◌, ◌++◌, flat_map, length, Option, Some, None}
use Rattle.card_set.specs.declared.card.Slot.{Slot}
use Rattle.card_set.specs.declared.card.Slot.TheVariants as slots
use Rattle.card_set.specs.Deck.{deck_index}
use Rattle.chip_ledger.specs.Pots.{PlainPot}
use Rattle.play_event.specs.Past.{Act, Folded, Called, Raised, BroughtIn}
use Rattle.play_event.specs.Trace.{TracedMove, TracedPlace}
use Rattle.play_event.specs.TraceCore.{TraceCore}

-- a card as a number: 0 if it is unknown
abbrev pub slot_number : Slot → ℕ
slot_number (slots.Known card) = suc (deck_index card)
slot_number slots.Unknown = 0

-- an owner as a number: 0 for the board
abbrev pub owner_number : Option ℕ → ℕ
owner_number (Some seat) = suc seat
owner_number None = 0

-- what a seat did, as a number
abbrev pub act_number : Act → ℕ
act_number Folded = 0
act_number Called = 1
act_number Raised = 2
act_number BroughtIn = 3

-- a place as numbers
abbrev pub place_numbers : TracedPlace → List ℕ
place_numbers place =
    owner_number place.owner ∷ place.street ∷ slot_number place.slot ∷ place.discarded ∷ []

-- a move as numbers
abbrev pub move_numbers : TracedMove → List ℕ
move_numbers move =
    move.street ∷ move.seat ∷ act_number move.act ∷ move.from ∷ move.to
    ∷ move.price ∷ (if move.closed then 1 else 0) ∷ move.unit_to ∷ []

-- a pot as numbers
abbrev pub pot_numbers : PlainPot → List ℕ
pot_numbers pot = pot.chips ∷ length pot.eligible ∷ pot.eligible

-- a trace as numbers: each list with its length in front
abbrev pub trace_numbers : TraceCore → List ℕ
trace_numbers trace =
    length trace.places ∷ flat_map place_numbers trace.places
    ++ (length trace.moves ∷ flat_map move_numbers trace.moves
    ++ (length trace.shown ∷ trace.shown
    ++ (length trace.mucked ∷ trace.mucked
    ++ (length trace.pots ∷ flat_map pot_numbers trace.pots ++ trace.returned))))

-- two lists have the same numbers
abbrev pub is_same_list : List ℕ → List ℕ → Bool
is_same_list [] [] = true
is_same_list [] (y ∷ ys) = false
is_same_list (x ∷ xs) [] = false
is_same_list (x ∷ xs) (y ∷ ys) = if x == y then is_same_list xs ys else false
