-- The numbers that options take: decimal digits, each option with its own range.
use Rattle.std.specs.Prelude.{◌≡◌, ℕ, ◌&&◌, Bool, true, false, if◌then◌else◌, List, length, leb, nat_le, Option, Some, None, option_and_then}
use Rattle.std.proofs.Common.{refl}
use Rattle.std.proofs.lemmas.Bool.{leb-true}
use Rattle.chip_ledger.specs.declared.numbers.Seat.{Seat}
use Rattle.first_fault.specs.Digits.{are_digits, number_of}
use Rattle.first_fault.specs.declared.limits.TheConstants.{MOST_HANDS}

-- the number, if it is at least `least`
abbrev pub no_less : (least : ℕ) → ℕ → Option ℕ
no_less least number = if nat_le least number then Some number else None

-- The number that a text of 1 to `digits` decimal digits says, if it is in this range; leading
-- zeros are allowed.
abbrev pub number_said : (digits least most : ℕ) → List ℕ → Option ℕ
number_said digits least most text =
    if are_digits text && nat_le (length text) digits
    then option_and_then (no_less least) (number_of most text)
    else None

-- the value of --seed: at most nine digits
abbrev pub seed_said : List ℕ → Option ℕ
seed_said text = number_said 9 0 999999999 text

-- the value of --hands: at most as many hands as a file may have, in at most five digits
abbrev pub hands_said : List ℕ → Option ℕ
hands_said text = number_said 5 0 MOST_HANDS text

-- the value of --hand: the place of a hand in its file, from 1, in at most five digits
abbrev pub hand_said : List ℕ → Option ℕ
hand_said text = number_said 5 1 MOST_HANDS text

-- the value of --after: a number of events, in at most four digits
abbrev pub events_said : List ℕ → Option ℕ
events_said text = number_said 4 0 9999 text

-- the value of --street: a street with a board, 2, 3 or 4, in one digit
abbrev pub street_said : List ℕ → Option ℕ
street_said text = number_said 1 2 4 text

-- the seat with this number, if it is at least 1 and at most 10
abbrev pub seat_where : (number : ℕ) (first last : Bool) → leb 1 number ≡ first
    → leb number 10 ≡ last → Option Seat
seat_where number true true first last = Some (record {
  number = number;
  first = leb-true 1 number first;
  last = leb-true number 10 last;
})
seat_where number true false first last = None
seat_where number false last_is first last = None

-- the seat with this number, if it is 1 to 10
abbrev pub seat_of : ℕ → Option Seat
seat_of number = seat_where number (leb 1 number) (leb number 10) refl refl

-- the value of --seat: 1 to 10, in at most two digits
abbrev pub seat_said : List ℕ → Option Seat
seat_said text = option_and_then seat_of (number_said 2 1 10 text)
