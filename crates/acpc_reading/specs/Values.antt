-- What each seat won or lost, as a line states it.
use Rattle.std.specs.Prelude.{ℕ, ◌+◌, ◌==◌, ◌&&◌, Bool, true, false, nat_lt, if◌then◌else◌, List, [], ◌∷◌, ◌++◌, length, ℤ, pos, ◌-ℤ◌, Result, Ok}
use Rattle.std.specs.List.{list_all}
use Rattle.std.specs.Option.{option_map_or}
use Rattle.chip_ledger.specs.declared.seat_row.TheConstants.{MOST_AMOUNT}
use Rattle.first_fault.specs.Reading.{◌>>=◌}
use Rattle.first_fault.specs.Digits.{are_digits, number_of}
use Rattle.acpc_game.specs.declared.fault.LineFault.{LineFault}
use Rattle.acpc_game.specs.declared.fault.LineFaultKind.TheVariants as whats
use Rattle.acpc_game.specs.Faults.{wrong}
use Rattle.acpc_game.specs.Parts.{parts_of}

-- one or more zeros
abbrev pub are_zeros : List ℕ → Bool
are_zeros text = nat_lt 0 (length text) && list_all (λ b. b == 48) text

-- a number with its sign
abbrev pub signed : Bool → ℕ → ℤ
signed true number = pos 0 -ℤ pos number
signed false number = pos number

-- the number that digits say
unfoldable pub whole_said : Bool → ℕ → List ℕ → Result ℤ LineFault
whole_said is_negative at digits =
    if are_digits digits
    then option_map_or (λ number. Ok (signed is_negative number)) (number_of MOST_AMOUNT digits)
    (wrong whats.AmountLimit at)
    else wrong whats.BadValue at

-- digits, optionally followed by a point and one or more zeros
abbrev pub unsigned_said : Bool → ℕ → List (List ℕ) → Result ℤ LineFault
unsigned_said is_negative at (digits ∷ []) = whole_said is_negative at digits
unsigned_said is_negative at (digits ∷ zeros ∷ []) =
    if are_zeros zeros then whole_said is_negative at digits else wrong whats.BadValue at
unsigned_said is_negative at parts = wrong whats.BadValue at

-- a value, which begins at this byte; a negative one begins with -
abbrev pub value_said : ℕ → List ℕ → Result ℤ LineFault
value_said at [] = wrong whats.BadValue at
value_said at (first ∷ rest) =
    if first == 45
    then unsigned_said true at (parts_of 46 rest)
    else unsigned_said false at (parts_of 46 (first ∷ rest))

-- the values and more of them, the first of which begins at this byte
unfoldable pub values_after : List ℤ → ℕ → List (List ℕ) → Result (List ℤ) LineFault
values_after values at [] = Ok values
values_after values at (part ∷ parts) =
    value_said at part >>= λ value. values_after (values ++ value ∷ []) (at + length part + 1) parts

-- the values field, which begins at this byte
unfoldable pub values_said : ℕ → ℕ → List ℕ → Result (List ℤ) LineFault
values_said players at text =
    if length (parts_of 124 text) == players
    then values_after [] at (parts_of 124 text)
    else wrong whats.SeatCount at
