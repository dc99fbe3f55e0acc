-- Rows at the end of a hand, and what they mean for its past.
use Rattle.std.specs.Prelude.{◌≡◌, ℕ, ◌≤◌, ◌&&◌, Bool, not, nat_le, count_by, List}
use Rattle.chip_ledger.specs.declared.pots.PotRow.{PotRow}
use Rattle.chip_ledger.specs.declared.live_row.LiveRow.{LiveRow}
use Rattle.chip_ledger.specs.declared.seat_row.SeatRow.{SeatRow}
use Rattle.chip_ledger.specs.LiveRow.{flag_of}
use Rattle.chip_ledger.specs.PotRow.{plain_pots}
use Rattle.chip_ledger.specs.Seat.{seats_of}
use Rattle.chip_ledger.specs.SeatRow.{amount_of}
use Rattle.play_event.specs.declared.setup.Setup.{Setup}
use Rattle.play_event.specs.Chips.{chips_put}
use Rattle.play_event.specs.Past.{Move, Past, moves_of}
use Rattle.play_event.specs.Seats.{is_live}
use Rattle.play_event.specs.Stakes.{pots_after, returned_after}

-- how many seats of a row have the flag
abbrev pub flag_count : LiveRow → ℕ
flag_count row = count_by (flag_of row) (seats_of row.seats)

-- a seat is shown: the hand is contested, the seat is live and did not muck, and all its cards are
-- known
abbrev pub is_shown_by : (live mucked unknown : LiveRow) → ℕ → Bool
is_shown_by live mucked unknown seat =
    nat_le 2 (flag_count live) && flag_of live seat && not (flag_of mucked seat)
    && not (flag_of unknown seat)

-- a seat is mucked: the hand is contested, and the seat is live and not shown
abbrev pub is_mucked_by : (live shown : LiveRow) → ℕ → Bool
is_mucked_by live shown seat =
    nat_le 2 (flag_count live) && flag_of live seat && not (flag_of shown seat)

-- the rows have the chips that each seat put in by these moves, and the seats that are live after
-- them
pub record AreRowsOf (setup : Setup) (moves : List Move) (put : SeatRow) (live : LiveRow) : Type 0
  where
    pub puts : (seat : ℕ) → 1 ≤ seat → seat ≤ setup.stacks.seats
        → amount_of put seat ≡ chips_put setup moves seat
    pub lives : (seat : ℕ) → 1 ≤ seat → seat ≤ setup.stacks.seats
        → flag_of live seat ≡ is_live moves seat

-- a row has the pots of the rules after a past, and what is returned to each seat
pub record ArePotsOf (setup : Setup) (past : Past) (row : PotRow) : Type 0 where
  pub pots : plain_pots row ≡ pots_after setup (moves_of past)
  pub returned : (seat : ℕ) → 1 ≤ seat → seat ≤ setup.stacks.seats
      → amount_of row.returned seat ≡ returned_after setup (moves_of past) seat
