-- What the posts of a hand are checked against, and who posts the blinds.
use Rattle.std.specs.Prelude.{ℕ, ◌-◌, List, length, slice_index}
use Rattle.ohh_rounds.specs.declared.named_blinds.NamedBlinds.{NamedBlinds}
use Rattle.chip_ledger.specs.SeatRow.{amounts_in}
use Rattle.chip_ledger.specs.Seat.{big_blind_of, small_blind_of}

-- the starting stacks, p1's first, and both blinds as they are named
pub record PlainNamedBlinds : Type 0 where
  pub stacks : List ℕ
  pub small_blind : ℕ
  pub big_blind : ℕ

-- stacks and blinds as plain numbers
abbrev pub plain_named_blinds : NamedBlinds → PlainNamedBlinds
plain_named_blinds table =
    record {
      stacks = amounts_in table.stacks;
      small_blind = table.small_blind;
      big_blind = table.big_blind;
    }

-- the number of seats
abbrev pub seat_count : PlainNamedBlinds → ℕ
seat_count table = length table.stacks

-- the seat of the small blind: p1, or p2 if there are two seats
abbrev pub seat_of_small_blind : PlainNamedBlinds → ℕ
seat_of_small_blind table = small_blind_of (seat_count table)

-- the seat of the big blind: p2, or p1 if there are two seats
abbrev pub seat_of_big_blind : PlainNamedBlinds → ℕ
seat_of_big_blind table = big_blind_of (seat_count table)

-- the stack of a seat
abbrev pub stack_of : PlainNamedBlinds → ℕ → ℕ
stack_of table seat = slice_index table.stacks (seat - 1)
