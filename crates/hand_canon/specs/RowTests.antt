-- Tests and selections on the moves, cards and seats of a trace, one at a time.
use Rattle.std.specs.Prelude.{ℕ, Bool, ◌&&◌, ◌==◌, nat_lt, not, List, [], ◌∷◌, count_by, Option, if◌then◌else◌}
use Rattle.chip_ledger.specs.declared.live_row.LiveRow.{LiveRow}
use Rattle.chip_ledger.specs.LiveRow.{flag_of}
use Rattle.chip_ledger.specs.Seat.{seats_of}
use Rattle.card_set.specs.declared.card.Slot.{Slot}
use Rattle.card_set.specs.Known.{known_among}
use Rattle.play_event.specs.declared.hands.HandRow.{HandRow}
use Rattle.play_event.specs.declared.played.Move.{Move}
use Rattle.play_event.specs.declared.played.Place.{Place}
use Rattle.play_event.specs.Places.{is_same_owner}
use Rattle.play_event.specs.Said.{Said, Discard, Show, Muck}
use Rattle.play_event.specs.SeatSlots.{slots_of_hand}
use Rattle.play_event.specs.Past.{is_folding}
use Rattle.play_event.specs.Played.{act_said, move_said}
use Rattle.play_event.specs.CanonScript.{move_named, plain_move}
use Rattle.hand_canon.specs.TraceRows.{place_said}

-- a move is a fold by a seat
abbrev pub is_fold_of : ℕ → Move → Bool
is_fold_of seat move = is_folding (act_said move.act) && (move.seat.number == seat)

-- a move is a fold by a seat before a street
abbrev pub is_fold_before : ℕ → ℕ → Move → Bool
is_fold_before street seat move = nat_lt move.street street && is_fold_of seat move

-- what a move says, if it belongs to the street
abbrev pub said_on : ℕ → Move → List Said
said_on street move =
    if move.street == street then move_named (plain_move (move_said move)) ∷ [] else []

-- the card of a dealt card, if it counts and belongs to this owner
abbrev pub slot_for : Option ℕ → Bool → Place → List Slot
slot_for owner counts place =
    if is_same_owner (place_said place).owner owner && counts then place.slot ∷ [] else []

-- how many of this number of seats have not folded
abbrev pub unfolded_count : LiveRow → ℕ → ℕ
unfolded_count folded seats = count_by (λ seat. not (flag_of folded seat)) (seats_of seats)

-- the discard of a seat, unless it has folded
abbrev pub discards_from : LiveRow → HandRow → ℕ → List Said
discards_from folded discards seat =
    if flag_of folded seat then [] else Discard seat (slots_of_hand discards seat) ∷ []

-- the show of all that a seat holds, or its muck, unless it has folded
abbrev pub showings_from : LiveRow → LiveRow → HandRow → ℕ → List Said
showings_from folded shown held seat =
    if flag_of folded seat then []
    else (
    if flag_of shown seat
    then Show seat (known_among (slots_of_hand held seat))
    else Muck seat) ∷ []
