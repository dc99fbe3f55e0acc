-- The forms of a value in a document: the value, or the fault of a value of another form.
use Rattle.std.specs.Prelude.{ℕ, nat_le, ◌&&◌, if◌then◌else◌, List, length, Option, Some, None, ℤ, pos, negsuc, Result, Ok, Err}

-- the value, or this fault if there is none
abbrev pub or_fault : {A F : Type 0} → F → Option A → Result A F
or_fault fault (Some x) = Ok x
or_fault fault None = Err fault

-- a list of at most `most` items, or else this fault
abbrev pub few : {A F : Type 0} → ℕ → F → List A → Result (List A) F
few most fault items = if nat_le (length items) most then Ok items else Err fault

-- a number from `least` to `most`, or else this fault
abbrev pub within : {F : Type 0} → ℕ → ℕ → F → ℕ → Result ℕ F
within least most fault number =
    if nat_le least number && nat_le number most then Ok number else Err fault

-- the number that a value is, if it is one: natural, below zero, or with a fraction
pub data Numeral : Type 0 where
  Natural : ℕ → Numeral
  BelowZero : ℤ → Numeral
  Fraction : Numeral
  NoNumber : Numeral

-- the numeral of a whole number
abbrev pub whole_numeral : ℤ → Numeral
whole_numeral (pos n) = Natural n
whole_numeral (negsuc n) = BelowZero (negsuc n)

-- the faults of a value that should be a number
pub record NumberFaults (F : Type 0) : Type 0 where
  pub out_of_range : F
  pub not_whole : F
  pub no_number : F

-- a whole number from `least` to `most`, or else the fault of what the value is
abbrev pub whole_within : {F : Type 0} → NumberFaults F → ℕ → ℕ → Numeral → Result ℕ F
whole_within faults least most (Natural n) = within least most faults.out_of_range n
whole_within faults least most (BelowZero z) = Err faults.out_of_range
whole_within faults least most Fraction = Err faults.not_whole
whole_within faults least most NoNumber = Err faults.no_number

-- any whole number, or else the fault of what the value is
abbrev pub whole : {F : Type 0} → NumberFaults F → Numeral → Result ℤ F
whole faults (Natural n) = Ok (pos n)
whole faults (BelowZero z) = Ok z
whole faults Fraction = Err faults.not_whole
whole faults NoNumber = Err faults.no_number
