-- The canonical script of a trace: cards as they are known at the end, in the order of streets and
-- seats; each draw's discards before its deals; moves with their seat and their target; and a
-- showdown in the order of seats.
use Rattle.std.specs.Prelude.{ℕ, Bool, ◌&&◌, ◌==◌, nat_le, if◌then◌else◌, List, [], ◌∷◌, ◌++◌, map, filter, flat_map, reverse, Option, Some, None}
use Rattle.std.specs.List.{list_any}
use Rattle.card_set.specs.declared.card.Slot.{Slot}
use Rattle.card_set.specs.Known.{known_among}
use Rattle.play_event.specs.declared.event.Spelled.TheVariants as spelled
use Rattle.play_event.specs.declared.setup.Setup.{Setup}
use Rattle.play_event.specs.Streets.{has_draw}
use Rattle.play_event.specs.Said.{Said, Hole, Board, Fold, Call, Raise, BringIn, Discard, Show, Muck}
use Rattle.play_event.specs.Past.{Move, Act, Folded, Called, Raised, BroughtIn, moves_before}
use Rattle.play_event.specs.Seats.{all_seats, is_live, live_count}
use Rattle.play_event.specs.Places.{is_same_owner}
use Rattle.play_event.specs.Trace.{TracedMove, TracedPlace, streets_of}
use Rattle.play_event.specs.TraceCore.{TraceCore, core_after}

-- a move of a trace without the numbers computed from the moves before it
abbrev pub plain_move : TracedMove → Move
plain_move move =
    record
    { street = move.street; seat = move.seat; act = move.act; from = move.from; to = move.to }

-- the moves of a trace, newest first
abbrev pub plain_moves : List TracedMove → List Move
plain_moves moves = reverse (map plain_move moves)

-- a card was dealt to an owner (a seat or the board) on a street
abbrev pub is_dealt_to : Option ℕ → ℕ → TracedPlace → Bool
is_dealt_to owner street place = is_same_owner place.owner owner && (place.street == street)

-- the cards that an owner was dealt on a street
abbrev pub dealt_slots : List TracedPlace → Option ℕ → ℕ → List Slot
dealt_slots placed owner street =
    map (λ place. place.slot) (filter (is_dealt_to owner street) placed)

-- a card was discarded by a seat in the draw of a street
abbrev pub is_discard_of : ℕ → ℕ → TracedPlace → Bool
is_discard_of seat street place =
    is_same_owner place.owner (Some seat) && (place.discarded == street)

-- the cards that a seat discarded in the draw of a street
abbrev pub discarded_slots : List TracedPlace → ℕ → ℕ → List Slot
discarded_slots placed seat street =
    map (λ place. place.slot) (filter (is_discard_of seat street) placed)

-- the cards that a seat holds at the end: those that it did not discard
abbrev pub held_slots : List TracedPlace → ℕ → List Slot
held_slots placed seat = discarded_slots placed seat 0

-- the deal of these cards to a seat, if there are any
abbrev pub deal_said : ℕ → List Slot → List Said
deal_said seat [] = []
deal_said seat (slot ∷ rest) = Hole seat (slot ∷ rest) ∷ []

-- the deal of these cards to the board, if there are any
abbrev pub board_said : List Slot → List Said
board_said [] = []
board_said (slot ∷ rest) = Board (known_among (slot ∷ rest)) ∷ []

-- the deals of a street: one event for each seat, and one for the board
abbrev pub deals_said : Setup → List TracedPlace → ℕ → List Said
deals_said setup placed street =
    flat_map (λ seat. deal_said seat (dealt_slots placed (Some seat) street)) (all_seats setup)
    ++ board_said (dealt_slots placed None street)

-- the seats that draw on a street: those that are live when the street begins
abbrev pub drawing_seats : Setup → List Move → ℕ → List ℕ
drawing_seats setup moves street = filter (is_live (moves_before street moves)) (all_seats setup)

-- the hand reached a street: two or more seats are live when it begins
abbrev pub is_reached : Setup → List Move → ℕ → Bool
is_reached setup moves street = nat_le 2 (live_count setup (moves_before street moves))

-- the discards of a street
abbrev pub discards_said : Setup → List TracedPlace → List Move → ℕ → List Said
discards_said setup placed moves street =
    if has_draw setup.code street && is_reached setup moves street
    then map
    (λ seat. Discard seat (discarded_slots placed seat street))
    (drawing_seats setup moves street)
    else []

-- what a seat did, with its number and target
abbrev pub act_named : Act → ℕ → ℕ → Said
act_named Folded seat target = Fold (Some seat)
act_named Called seat target = Call (Some seat) None
act_named Raised seat target = Raise (Some seat) (spelled.To target)
act_named BroughtIn seat target = BringIn (Some seat)

-- a move, with its seat and target
abbrev pub move_named : Move → Said
move_named move = act_named move.act move.seat move.to

-- the moves of a street, oldest first
abbrev pub moves_named : List Move → ℕ → List Said
moves_named moves street = map move_named (reverse (filter (λ move. move.street == street) moves))

-- one street: its discards, its deals and its moves
abbrev pub street_said : Setup → List TracedPlace → List Move → ℕ → List Said
street_said setup placed moves street =
    discards_said setup placed moves street
    ++ (deals_said setup placed street ++ moves_named moves street)

-- a seat shows all its cards, or mucks
abbrev pub showing_said : List TracedPlace → List ℕ → ℕ → Said
showing_said placed shown seat =
    if list_any (λ other. other == seat) shown
    then Show seat (known_among (held_slots placed seat))
    else Muck seat

-- the showdown of a contested hand
abbrev pub showdown_said : Setup → List TracedPlace → List Move → List ℕ → List Said
showdown_said setup placed moves shown =
    if nat_le 2 (live_count setup moves)
    then map (showing_said placed shown) (filter (is_live moves) (all_seats setup))
    else []

-- the canonical script of places, moves (newest first) and shown seats
abbrev pub script_of : Setup → List TracedPlace → List Move → List ℕ → List Said
script_of setup placed moves shown =
    flat_map (street_said setup placed moves) (streets_of setup)
    ++ showdown_said setup placed moves shown

-- the canonical script of a trace
unfoldable pub canonical_script : Setup → TraceCore → List Said
canonical_script setup trace = script_of setup trace.places (plain_moves trace.moves) trace.shown

-- the canonical script of the trace of a script
abbrev pub canon_of : Setup → List Said → List Said
canon_of setup script = canonical_script setup (core_after setup script)
