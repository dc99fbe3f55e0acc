-- Lists of amounts: one per seat, or one per pot.
use Rattle.std.specs.Prelude.{◌≡◌, ℕ, ◌-◌, ◌≤◌, nat_le, ◌&&◌, min, max, if◌then◌else◌, List, [], ◌∷◌, ◌++◌, length, replicate, slice_index, Result, Ok}
use Rattle.toml.specs.Data.{Data}
use Rattle.chip_ledger.specs.declared.numbers.TheConstants.{MOST_CHIPS}
use Rattle.chip_ledger.specs.declared.seat_row.TheConstants.{MOST_AMOUNT}
use Rattle.chip_ledger.specs.declared.seat_row.SeatRow.{SeatRow}
use Rattle.first_fault.specs.Reading.{◌>>=◌, each_from}
use Rattle.phh_reading.specs.declared.field_fault.FieldKey.{FieldKey}
use Rattle.phh_reading.specs.declared.field_fault.FieldKey.TheVariants as keys
use Rattle.phh_reading.specs.declared.field_fault.FieldFaultKind.TheVariants as whats
use Rattle.phh_reading.specs.declared.field_fault.FieldLocation.{FieldLocation}
use Rattle.phh_reading.specs.declared.field_fault.FieldFault.{FieldFault}
use Rattle.phh_reading.specs.Fields.{key_place, item_place, wrong, list_said, items_said, amount_said}

-- amounts from least to most
abbrev pub amounts_said : ℕ → ℕ → FieldKey → List Data → Result (List ℕ) FieldFault
amounts_said least most key items =
    each_from (λ n value. amount_said least most (item_place key n) value) 1 items

-- one amount of at most this many chips for each of this many seats
unfoldable pub row_said : ℕ → ℕ → FieldKey → Data → Result (List ℕ) FieldFault
row_said seats most key value = items_said seats key value >>= amounts_said 0 most key

-- the starting stacks of two seats up to the most of the game
unfoldable pub stacks_said : ℕ → Data → Result (List ℕ) FieldFault
stacks_said most_seats value = do
  items ← list_said (key_place keys.StartingStacks) value
  if nat_le 2 (length items) && nat_le (length items) most_seats
      then amounts_said 1 MOST_CHIPS keys.StartingStacks items
      else wrong whats.SeatCount (key_place keys.StartingStacks)

-- the ante of a seat with this stack: the smaller of the stated ante and the stack
unfoldable pub ante_said : ℕ → FieldLocation → Data → Result ℕ FieldFault
ante_said stack place value = amount_said 0 MOST_CHIPS place value >>= λ ante. Ok (min ante stack)

-- the antes of seats with these stacks, none above its stack
pub record AreHeld (stacks antes : SeatRow) : Type 0 where
  pub seats : antes.seats ≡ stacks.seats
  pub each : (k : ℕ) → slice_index antes.amounts k ≤ slice_index stacks.amounts k

-- the antes of seats with these stacks
abbrev pub antes_from : List ℕ → List Data → Result (List ℕ) FieldFault
antes_from stacks items =
    each_from (λ n value. ante_said (slice_index stacks (n - 1)) (item_place keys.Antes n) value) 1
    items

-- the antes of the seats
unfoldable pub antes_said : List ℕ → Data → Result (List ℕ) FieldFault
antes_said stacks value = items_said (length stacks) keys.Antes value >>= antes_from stacks

-- the blinds in the order of seats: with two seats, the first seat has the greater one
abbrev pub heads_up_swapped : List ℕ → List ℕ
heads_up_swapped (first ∷ second ∷ []) = max first second ∷ min first second ∷ []
heads_up_swapped blinds = blinds

-- the rakes of pots, the lowest pot's first; a pot past the last one has 0
unfoldable pub rakes_from : List Data → Result (List ℕ) FieldFault
rakes_from items =
    amounts_said 0 MOST_AMOUNT keys.Rakes items
    >>= λ rakes. Ok (rakes ++ replicate (11 - length rakes) 0)

-- the rakes of at most eleven pots
unfoldable pub rakes_said : Data → Result (List ℕ) FieldFault
rakes_said value = do
  items ← list_said (key_place keys.Rakes) value
  if nat_le (length items) 11
      then rakes_from items
      else wrong whats.ListLength (key_place keys.Rakes)
