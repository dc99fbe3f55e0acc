-- The names of a line: the name of each player, and the number of the hand.
use Rattle.std.specs.Prelude.{ℕ, ◌-◌, ◌==◌, ◌&&◌, ◌||◌, Bool, not, nat_le, if◌then◌else◌, List, length, slice_index, slice_index_or, Option, Some, None, decimal}
use Rattle.std.specs.List.{list_all}
use Rattle.first_fault.specs.Digits.{are_digits}
use Rattle.hand_canon.specs.declared.notes.Notes.{Notes}
use Rattle.acpc_format.specs.Seats.{for_seats}
use Rattle.chip_ledger.specs.SeatsSaid.{default_name}

-- a sign is allowed in a name: not a colon, a bar, or the end of a line
abbrev pub may_stand : ℕ → Bool
may_stand sign = not (sign == 58 || (sign == 124 || (sign == 13 || sign == 10)))

-- a line can write a name
unfoldable pub is_spelled_name : List ℕ → Bool
is_spelled_name name = list_all may_stand name

-- a line can write a hand number: a decimal number without leading zeros, of at most 18 digits
unfoldable pub is_spelled_hand : List ℕ → Bool
is_spelled_hand text =
    are_digits text
    && ((not (slice_index text 0 == 48) || length text == 1) && nat_le (length text) 18)

-- the name of a seat's player, or the default name if there is none or a line cannot write it
abbrev pub name_or_default : ℕ → Option (List ℕ) → List ℕ
name_or_default seat None = default_name seat
name_or_default seat (Some name) = if is_spelled_name name then name else default_name seat

-- the name of a seat's player, from the notes of the hand
abbrev pub name_text : Notes → ℕ → List ℕ
name_text notes seat = name_or_default seat (slice_index_or notes.names (seat - 1) None)

-- the names of `count` players
unfoldable pub names_text : Notes → ℕ → List ℕ
names_text notes count = for_seats (name_text notes) count

-- the number of the hand at a place of its file (from 0): that place if there is no number or a
-- line cannot write it
unfoldable pub hand_text : ℕ → Option (List ℕ) → List ℕ
hand_text place None = decimal place
hand_text place (Some text) = if is_spelled_hand text then text else decimal place
