-- The values of members, each read in its form or refused with the path of its member.
use Rattle.std.specs.Prelude.{ℕ, ◌+◌, ◌-◌, if◌then◌else◌, List, [], ◌∷◌, Option, Some, None, ℤ, Result, Err}
use Rattle.std.specs.Ordering.{int_eq}
use Rattle.serde_json.specs.Data.{Data, number, string, array, object, unsigned, negative, float, Items, no_items, item}
use Rattle.serde_json.specs.Find.{get}
use Rattle.card_set.specs.declared.card.Card.{Card}
use Rattle.card_set.specs.declared.card.Slot.{Slot}
use Rattle.card_set.specs.declared.card.Slot.TheVariants as slots
use Rattle.card_set.specs.Spelling.{slot_spelled}
use Rattle.first_fault.specs.Forms.{Numeral, Natural, BelowZero, Fraction, NoNumber, NumberFaults, few, or_fault, whole, whole_within}
use Rattle.first_fault.specs.Reading.{◌>>=◌, each_from}
use Rattle.ohh_members.specs.declared.fault.MemberFaultKind.{MemberFaultKind}
use Rattle.ohh_members.specs.declared.fault.MemberFaultKind.TheVariants as whats
use Rattle.ohh_members.specs.declared.fault.Path.{Path}
use Rattle.ohh_members.specs.declared.fault.MemberFault.{MemberFault}
use Rattle.ohh_members.specs.Paths.{member_name, card_path}

-- a fault at a path
abbrev pub member_fault : MemberFaultKind → Path → MemberFault
member_fault what path = record { what = what; path = path }

-- what is wrong at a path
abbrev pub wrong : {A : Type 0} → MemberFaultKind → Path → Result A MemberFault
wrong what path = Err (member_fault what path)

-- a value that is there, or else a fault
abbrev pub or_wrong : {A : Type 0} → MemberFaultKind → Path → Option A → Result A MemberFault
or_wrong what path found = or_fault (member_fault what path) found

-- the value of the member that a path ends with, if the object has one
abbrev pub member_at : Path → Data → Option Data
member_at path value = get (member_name path) value

-- the value of a required member
unfoldable pub required_value : Path → Data → Result Data MemberFault
required_value path value = or_wrong whats.MissingMember path (member_at path value)

-- the text that a value is
abbrev pub text_of : Data → Option (List ℕ)
text_of (string text) = Some text
text_of _ = None

-- a text
unfoldable pub text_said : Path → Data → Result (List ℕ) MemberFault
text_said path value = or_wrong whats.WrongType path (text_of value)

-- the object that a value is
abbrev pub object_of : Data → Option Data
object_of (object members) = Some (object members)
object_of _ = None

-- an object, in which members are looked up
unfoldable pub object_said : Path → Data → Result Data MemberFault
object_said path value = or_wrong whats.WrongType path (object_of value)

-- the items of a list, in order
abbrev pub listed : Items → List Data
listed no_items = []
listed (item value rest) = value ∷ listed rest

-- the list that a value is, as its items
abbrev pub list_of : Data → Option (List Data)
list_of (array items) = Some (listed items)
list_of _ = None

-- a list
unfoldable pub list_said : Path → Data → Result (List Data) MemberFault
list_said path value = or_wrong whats.WrongType path (list_of value)

-- the number that a value is
abbrev pub numeral_of : Data → Numeral
numeral_of (number (unsigned n)) = Natural n
numeral_of (number (negative z)) = BelowZero z
numeral_of (number (float x)) = Fraction
numeral_of _ = NoNumber

-- the faults of a number at a path
abbrev pub number_faults : Path → NumberFaults MemberFault
number_faults path =
    record {
      out_of_range = member_fault whats.AmountLimit path;
      not_whole = member_fault whats.AmountNotWhole path;
      no_number = member_fault whats.WrongType path;
    }

-- a whole number from least to most: an amount, or another number
unfoldable pub number_said : ℕ → ℕ → Path → Data → Result ℕ MemberFault
number_said least most path value =
    whole_within (number_faults path) least most (numeral_of value)

-- any whole number
unfoldable pub integer_said : Path → Data → Result ℤ MemberFault
integer_said path value = whole (number_faults path) (numeral_of value)

-- the seat of the player with this id; the first of the ids is that of this seat, and the next ones
-- follow
abbrev pub seat_from : ℕ → ℤ → List ℤ → Option ℕ
seat_from seat id [] = None
seat_from seat id (other ∷ rest) =
    if int_eq id other then Some seat else seat_from (seat + 1) id rest

-- the seat of the player with this id; the ids are those of seat 1, seat 2 and so on
abbrev pub seat_of : List ℤ → ℤ → Option ℕ
seat_of ids id = seat_from 1 id ids

-- the seat of the player with this id
unfoldable pub player_said : List ℤ → Path → Data → Result ℕ MemberFault
player_said ids path value =
    integer_said path value >>= λ id. or_wrong whats.BadPlayer path (seat_of ids id)

-- the card, known or unknown, that a text of two letters means
abbrev pub slot_in : List ℕ → Option Slot
slot_in (first ∷ second ∷ []) = slot_spelled first second
slot_in _ = None

-- the card of a list of one card
abbrev pub one_slot : List Slot → Option Slot
one_slot (slot ∷ []) = Some slot
one_slot _ = None

-- the card, if it is known
abbrev pub known_in : Slot → Option Card
known_in (slots.Known card) = Some card
known_in slots.Unknown = None

-- a card, or two question marks for an unknown one
unfoldable pub slot_said : Path → Data → Result Slot MemberFault
slot_said path value = text_said path value >>= λ text. or_wrong whats.WrongType path (slot_in text)

-- a known card
unfoldable pub card_said : Path → Data → Result Card MemberFault
card_said path value =
    slot_said path value >>= λ slot. or_wrong whats.WrongType path (known_in slot)

-- a list of at most seven cards, before its items are looked at
unfoldable pub few_said : Path → Data → Result (List Data) MemberFault
few_said path value = list_said path value >>= few 7 (member_fault whats.WrongType path)

-- items one after the other, each read with its index in the list, from 0
abbrev pub each_item : {D A : Type 0} → (ℕ → D → Result A MemberFault) → List D
    → Result (List A) MemberFault
each_item form items = each_from (λ n. form (n - 1)) 1 items

-- the cards of a list at a path, each known or unknown
abbrev pub slots_from : Path → List Data → Result (List Slot) MemberFault
slots_from path items = each_item (λ index. slot_said (card_path path index)) items

-- at most seven cards, each known or unknown
unfoldable pub slots_said : Path → Data → Result (List Slot) MemberFault
slots_said path value = few_said path value >>= slots_from path

-- the known cards of a list at a path
abbrev pub cards_from : Path → List Data → Result (List Card) MemberFault
cards_from path items = each_item (λ index. card_said (card_path path index)) items

-- at most seven known cards
unfoldable pub cards_said : Path → Data → Result (List Card) MemberFault
cards_said path value = few_said path value >>= cards_from path
