-- The fields of a hand, each read in its form or refused with its place.
use Rattle.std.specs.Prelude.{ℕ, ◌==◌, Bool, if◌then◌else◌, List, [], ◌∷◌, ◌++◌, length, codes, Option, Some, None, Result, Ok, Err}
use Rattle.std.specs.Fmt.{decimal}
use Rattle.toml.specs.Data.{Data, string, integer, float, boolean, array, Items, no_items, item, Members, get_member}
use Rattle.first_fault.specs.Forms.{Numeral, Fraction, NoNumber, NumberFaults, or_fault, whole_numeral, whole_within}
use Rattle.first_fault.specs.Reading.{◌>>=◌}
use Rattle.phh_reading.specs.declared.field_fault.FieldKey.{FieldKey}
use Rattle.phh_reading.specs.declared.field_fault.FieldKey.TheVariants as keys
use Rattle.phh_reading.specs.declared.field_fault.FieldFaultKind.{FieldFaultKind}
use Rattle.phh_reading.specs.declared.field_fault.FieldFaultKind.TheVariants as whats
use Rattle.phh_reading.specs.declared.field_fault.FieldLocation.{FieldLocation}
use Rattle.phh_reading.specs.declared.field_fault.FieldFault.{FieldFault}

-- how the keys are written
abbrev pub key_text : FieldKey → List ℕ
key_text keys.Variant = codes "variant"
key_text keys.StartingStacks = codes "starting_stacks"
key_text keys.Antes = codes "antes"
key_text keys.AnteTrimmingStatus = codes "ante_trimming_status"
key_text keys.BlindsOrStraddles = codes "blinds_or_straddles"
key_text keys.BringIn = codes "bring_in"
key_text keys.SmallBet = codes "small_bet"
key_text keys.BigBet = codes "big_bet"
key_text keys.MinBet = codes "min_bet"
key_text keys.Actions = codes "actions"
key_text keys.FinishingStacks = codes "finishing_stacks"
key_text keys.Rakes = codes "_rakes"
key_text keys.Players = codes "players"
key_text keys.Seats = codes "seats"
key_text keys.SeatCount = codes "seat_count"
key_text keys.Hand = codes "hand"
key_text keys.Table = codes "table"
key_text keys.Venue = codes "venue"
key_text keys.Currency = codes "currency"
key_text keys.Year = codes "year"
key_text keys.Month = codes "month"
key_text keys.Day = codes "day"
key_text keys.Time = codes "time"
key_text keys.TimeZone = codes "time_zone"

-- a key itself, and an item of its list, counted from 1
abbrev pub key_place : FieldKey → FieldLocation
key_place key = record { key = key; item = 0 }

-- an item of the list of a key, counted from 1
abbrev pub item_place : FieldKey → ℕ → FieldLocation
item_place key n = record { key = key; item = n }

-- a place as text: the key, and for an item a space and its number
abbrev pub field_text : FieldLocation → List ℕ
field_text place =
    if place.item == 0
    then key_text place.key
    else (key_text place.key ++ (codes " " ++ decimal place.item))

-- a fault at a place
abbrev pub fault_at : FieldFaultKind → FieldLocation → FieldFault
fault_at what place = record { what = what; place = place }

-- what is wrong at a place
abbrev pub wrong : {A : Type 0} → FieldFaultKind → FieldLocation → Result A FieldFault
wrong what place = Err (fault_at what place)

-- a value that is there, or else a fault
abbrev pub or_wrong : {A : Type 0} → FieldFaultKind → FieldLocation → Option A → Result A FieldFault
or_wrong what place found = or_fault (fault_at what place) found

-- the value at a key, if there is one
abbrev pub field_value : FieldKey → Members → Option Data
field_value key members = get_member (key_text key) members

-- the value at a required key
unfoldable pub required_value : FieldKey → Members → Result Data FieldFault
required_value key members = or_wrong whats.MissingField (key_place key) (field_value key members)

-- the text that a value is
abbrev pub text_of : Data → Option (List ℕ)
text_of (string text) = Some text
text_of _ = None

-- a text
unfoldable pub text_said : FieldLocation → Data → Result (List ℕ) FieldFault
text_said place value = or_wrong whats.WrongType place (text_of value)

-- the truth value that a value is
abbrev pub flag_of : Data → Option Bool
flag_of (boolean flag) = Some flag
flag_of _ = None

-- a truth value
unfoldable pub flag_said : FieldLocation → Data → Result Bool FieldFault
flag_said place value = or_wrong whats.WrongType place (flag_of value)

-- the items of a list, in order
abbrev pub listed : Items → List Data
listed no_items = []
listed (item value rest) = value ∷ listed rest

-- the list that a value is, as its items
abbrev pub list_of : Data → Option (List Data)
list_of (array items) = Some (listed items)
list_of _ = None

-- a list
unfoldable pub list_said : FieldLocation → Data → Result (List Data) FieldFault
list_said place value = or_wrong whats.WrongType place (list_of value)

-- a list with one item for each of this many seats
unfoldable pub items_said : ℕ → FieldKey → Data → Result (List Data) FieldFault
items_said seats key value = do
  items ← list_said (key_place key) value
  if length items == seats then Ok items else wrong whats.ListLength (key_place key)

-- the number that a value is
abbrev pub numeral_of : Data → Numeral
numeral_of (integer number) = whole_numeral number
numeral_of (float number) = Fraction
numeral_of _ = NoNumber

-- the faults of an amount at a place
abbrev pub amount_faults : FieldLocation → NumberFaults FieldFault
amount_faults place =
    record {
      out_of_range = fault_at whats.AmountLimit place;
      not_whole = fault_at whats.AmountNotWhole place;
      no_number = fault_at whats.WrongType place;
    }

-- an amount from least to most: a whole number of chips
unfoldable pub amount_said : ℕ → ℕ → FieldLocation → Data → Result ℕ FieldFault
amount_said least most place value =
    whole_within (amount_faults place) least most (numeral_of value)

-- the faults of a number that is not an amount: with a fraction it has the wrong type
abbrev pub number_faults : FieldLocation → NumberFaults FieldFault
number_faults place =
    record {
      out_of_range = fault_at whats.AmountLimit place;
      not_whole = fault_at whats.WrongType place;
      no_number = fault_at whats.WrongType place;
    }

-- a whole number from least to most that is not an amount of chips
unfoldable pub number_said : ℕ → ℕ → FieldLocation → Data → Result ℕ FieldFault
number_said least most place value =
    whole_within (number_faults place) least most (numeral_of value)
