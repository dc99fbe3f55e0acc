-- The names of the players and the number of the hand, as a line has them.
use Rattle.std.specs.Prelude.{ℕ, ◌+◌, ◌==◌, ◌||◌, ◌&&◌, nat_lt, nat_le, if◌then◌else◌, List, [], ◌∷◌, ◌++◌, length, decimal, bytes_eq, Option, Some, None, Result, Ok}
use Rattle.std.specs.Option.{option_map_or}
use Rattle.std.specs.Str.{is_utf8}
use Rattle.first_fault.specs.declared.limits.TheConstants.{MOST_TEXT_BYTES}
use Rattle.first_fault.specs.declared.limits.Quantity.TheVariants as quantities
use Rattle.first_fault.specs.Reading.{◌>>=◌}
use Rattle.first_fault.specs.Digits.{are_digits, number_of}
use Rattle.acpc_game.specs.declared.fault.LineFault.{LineFault}
use Rattle.acpc_game.specs.declared.fault.LineFaultKind.TheVariants as whats
use Rattle.acpc_game.specs.Faults.{wrong}
use Rattle.acpc_game.specs.Parts.{parts_of}
use Rattle.chip_ledger.specs.SeatsSaid.{default_name}

-- a name as a note; an empty name, and p with the number of the seat, count as no name
abbrev pub name_note : ℕ → List ℕ → Option (List ℕ)
name_note seat text =
    if length text == 0 || bytes_eq text (default_name seat) then None else Some text

-- the name of a seat, which begins at this byte
unfoldable pub name_said : ℕ → ℕ → List ℕ → Result (Option (List ℕ)) LineFault
name_said seat at text =
    if is_utf8 text
    then (if nat_lt MOST_TEXT_BYTES (length text)
    then wrong (whats.TooMany quantities.TextBytes) at
    else Ok (name_note seat text))
    else wrong whats.LineShape at

-- the names with more of them, the first of which is this seat's and begins at this byte
unfoldable pub names_after : List (Option (List ℕ)) → ℕ → ℕ → List (List ℕ)
    → Result (List (Option (List ℕ))) LineFault
names_after names seat at [] = Ok names
names_after names seat at (part ∷ parts) =
    name_said seat at part
    >>= λ name. names_after (names ++ name ∷ []) (seat + 1) (at + length part + 1) parts

-- the names field, which begins at this byte
unfoldable pub names_said : ℕ → ℕ → List ℕ → Result (List (Option (List ℕ))) LineFault
names_said players at text =
    if length (parts_of 124 text) == players
    then names_after [] 1 at (parts_of 124 text)
    else wrong whats.SeatCount at

-- the most digits of a number of a hand
abbrev pub most_hand_digits : ℕ
most_hand_digits = 18

-- the greatest number of a hand, which has 18 digits
abbrev pub most_hand : ℕ
most_hand = 999999999999999999

-- a hand's number as a note, in decimal digits without leading zeros; the place of the hand in its
-- file (from 0) counts as no number
abbrev pub hand_note : ℕ → ℕ → Option (List ℕ)
hand_note place number = if number == place then None else Some (decimal number)

-- the hand's number, one to 18 digits from this byte on, of the hand at this place of its file
unfoldable pub hand_said : ℕ → ℕ → List ℕ → Result (Option (List ℕ)) LineFault
hand_said place at text =
    if are_digits text && nat_le (length text) most_hand_digits
    then option_map_or (λ number. Ok (hand_note place number)) (number_of most_hand text)
    (wrong whats.LineShape at)
    else wrong whats.LineShape at
