-- Compares what a record states of the end of a hand with its trace, and finds the first number
-- that differs.
use Rattle.std.specs.Prelude.{ℕ, ℤ, pos, ◌-ℤ◌, ◌≤◌, Bool, not, if◌then◌else◌, List, [], ◌∷◌, ◌++◌, map, find, sum_by, Option, Some, None, All}
use Rattle.std.specs.Option.{option_map_or}
use Rattle.std.specs.Ordering.{int_eq}
use Rattle.chip_ledger.specs.declared.pots.Pot.{Pot}
use Rattle.chip_ledger.specs.declared.seat_row.SeatRow.{SeatRow}
use Rattle.chip_ledger.specs.declared.seat_row.TheConstants.{MOST_AMOUNT}
use Rattle.chip_ledger.specs.PotRow.{pots_in, shares_in}
use Rattle.chip_ledger.specs.SeatRow.{amount_of}
use Rattle.play_event.specs.Seats.{all_seats}
use Rattle.hand_canon.specs.declared.agreement.FactDiffers.{FactDiffers}
use Rattle.hand_canon.specs.declared.agreement.Which.{Which}
use Rattle.hand_canon.specs.declared.agreement.Which.TheVariants as whiches
use Rattle.hand_canon.specs.declared.record.NetRow.{NetRow}
use Rattle.hand_canon.specs.declared.record.Stated.{Stated}
use Rattle.hand_canon.specs.declared.trace.Trace.{Trace}
use Rattle.hand_canon.specs.NetRow.{net_of}

-- a fact that may be stated: a seat's finishing stack, what it wins from the pots, the total of the
-- pots, or its net result
pub data Fact : Type 0 where
  Finish : ℕ → Fact
  Win : ℕ → Fact
  Pots : Fact
  Value : ℕ → Fact

-- a stated number beside the number in the trace
pub record Comparison : Type 0 where
  pub fact : Fact
  pub stated : ℤ
  pub replayed : ℤ

-- a fact with its two numbers
abbrev pub comparison : Fact → ℤ → ℤ → Comparison
comparison fact stated replayed = record { fact = fact; stated = stated; replayed = replayed }

-- what a seat wins from the pots: the sum of its shares
abbrev pub win_of : Trace → ℕ → ℕ
win_of trace seat = sum_by (λ share. amount_of share seat) (shares_in trace.shares)

-- the total of the pots, counting rakes but not returned chips
abbrev pub pot_total_of : Trace → ℕ
pot_total_of trace = sum_by (λ pot. pot.chips) (pots_in trace.pots)

-- what a seat won or lost: its finishing stack minus its starting stack
abbrev pub value_of : Trace → ℕ → ℤ
value_of trace seat = pos (amount_of trace.finish seat) -ℤ pos (amount_of trace.setup.stacks seat)

-- a stated finishing stack
abbrev pub finish_compared : Trace → SeatRow → ℕ → Comparison
finish_compared trace row seat =
    comparison (Finish seat) (pos (amount_of row seat)) (pos (amount_of trace.finish seat))

-- a stated win
abbrev pub win_compared : Trace → SeatRow → ℕ → Comparison
win_compared trace row seat =
    comparison (Win seat) (pos (amount_of row seat)) (pos (win_of trace seat))

-- a stated total of the pots
abbrev pub pots_compared : Trace → ℕ → Comparison
pots_compared trace total = comparison Pots (pos total) (pos (pot_total_of trace))

-- a stated net result
abbrev pub value_compared : Trace → NetRow → ℕ → Comparison
value_compared trace row seat = comparison (Value seat) (net_of row seat) (value_of trace seat)

-- the comparisons of a row, seat by seat, if there is a row
abbrev pub seats_compared : {Row : Type 0} → Trace → (Trace → Row → ℕ → Comparison) → Option Row
    → List Comparison
seats_compared trace compared row =
    option_map_or (λ stated. map (compared trace stated) (all_seats trace.setup)) row []

-- the comparison of the total of the pots, if it is stated
abbrev pub total_compared : Trace → Option ℕ → List Comparison
total_compared trace total = option_map_or (λ stated. pots_compared trace stated ∷ []) total []

-- all that is stated, in the order in which it is compared
abbrev pub all_compared : Trace → Stated → List Comparison
all_compared trace stated =
    seats_compared trace finish_compared stated.finish
    ++ (seats_compared trace win_compared stated.wins
    ++ (total_compared trace stated.pot_total
    ++ seats_compared trace value_compared stated.values))

-- the numbers of a comparison differ
abbrev pub is_different : Comparison → Bool
is_different comparison = not (int_eq comparison.stated comparison.replayed)

-- a comparison whose numbers differ
abbrev pub difference_of : Comparison → Option Comparison
difference_of comparison = if is_different comparison then Some comparison else None

-- the first stated fact that differs, with both numbers
abbrev pub first_difference : Trace → Stated → Option Comparison
first_difference trace stated = find is_different (all_compared trace stated)

-- the fact that is named
abbrev pub which_said : Which → Fact
which_said (whiches.Finish seat) = Finish seat.number
which_said (whiches.Win seat) = Win seat.number
which_said whiches.Pots = Pots
which_said (whiches.Value seat) = Value seat.number

-- what is reported of a fact that differs
abbrev pub difference_said : FactDiffers → Comparison
difference_said differs = comparison (which_said differs.which) differs.stated differs.replayed

-- each pot has no more chips than a row may hold
abbrev pub HasBoundedPots : Trace → Type 0
HasBoundedPots trace = All (λ (pot : Pot). pot.chips ≤ MOST_AMOUNT) (pots_in trace.pots)
