-- What rows of pots and of shares hold, and how the definition of pots sees the rows of a hand.
use Rattle.std.specs.Prelude.{ℕ, ◌-◌, List, map, slice_get, take}
use Rattle.std.specs.Option.{option_map_or}
use Rattle.chip_ledger.specs.declared.pots.Pot.{Pot}
use Rattle.chip_ledger.specs.declared.pots.PotRow.{PotRow}
use Rattle.chip_ledger.specs.declared.shares.ShareRow.{ShareRow}
use Rattle.chip_ledger.specs.declared.live_row.LiveRow.{LiveRow}
use Rattle.chip_ledger.specs.declared.seat_row.SeatRow.{SeatRow}
use Rattle.chip_ledger.specs.LiveRow.{flag_of, flagged}
use Rattle.chip_ledger.specs.Pots.{PlainPot, Stake}
use Rattle.chip_ledger.specs.Seat.{seats_of}
use Rattle.chip_ledger.specs.SeatRow.{amount_of, total_of}

-- the pots of the row, lowest first
abbrev pub pots_in : PotRow → List Pot
pots_in row = take row.count row.pots

-- the shares of the pots, lowest pot first
abbrev pub shares_in : ShareRow → List SeatRow
shares_in row = take row.count row.shares

-- a pot by its chips and the seats that may win it
abbrev pub plain : Pot → PlainPot
plain pot = record { chips = pot.chips; eligible = flagged pot.eligible }

-- the pots of the row by their chips and the seats that may win them
abbrev pub plain_pots : PotRow → List PlainPot
plain_pots row = map plain (pots_in row)

-- what each seat gets of each pot
abbrev pub plain_shares : ShareRow → List (ℕ → ℕ)
plain_shares row = map amount_of (shares_in row)

-- the chips that all seats get of pot number n (from 1, lowest first); 0 after the last pot
abbrev pub shared_in : ShareRow → ℕ → ℕ
shared_in row number = option_map_or total_of (slice_get (shares_in row) (number - 1)) 0

-- seat number n, with the chips that it put and whether it is live
abbrev pub stake_of : SeatRow → LiveRow → ℕ → Stake
stake_of puts live n = record { seat = n; chips = amount_of puts n; live = flag_of live n }

-- the stakes of all seats of a hand
abbrev pub stakes_of : SeatRow → LiveRow → List Stake
stakes_of puts live = map (stake_of puts live) (seats_of puts.seats)
