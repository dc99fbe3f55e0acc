-- The stakes of a hand after its moves: how much of each seat's chips counts, what is returned, the
-- pots, and what a seat ends with.
use Rattle.std.specs.Prelude.{ℕ, ◌+◌, List, map, sum_by}
use Rattle.chip_ledger.specs.Pots.{PlainPot, Stake, counted, dead_chips, pots_of, returned, whole_share}
use Rattle.chip_ledger.specs.Rakes.{nets_of}
use Rattle.chip_ledger.specs.SeatRow.{amount_of}
use Rattle.play_event.specs.declared.setup.Setup.{Setup}
use Rattle.play_event.specs.Past.{Move}
use Rattle.play_event.specs.Chips.{chips_put, chips_left}
use Rattle.play_event.specs.Seats.{is_live, all_seats}

-- the chips of a seat that count: all that it put in, without its ante if antes are dead
abbrev pub counted_put : Setup → List Move → ℕ → ℕ
counted_put setup moves seat =
    counted setup.dead_antes (chips_put setup moves seat) (amount_of setup.antes seat)

-- the stake of a seat
abbrev pub stake_after : Setup → List Move → ℕ → Stake
stake_after setup moves seat =
    record { seat = seat; chips = counted_put setup moves seat; live = is_live moves seat }

-- the stakes of all seats
abbrev pub stakes_after : Setup → List Move → List Stake
stakes_after setup moves = map (stake_after setup moves) (all_seats setup)

-- the dead antes of all seats, in total
abbrev pub dead_antes_of : Setup → ℕ
dead_antes_of setup = dead_chips setup.dead_antes (map (amount_of setup.antes) (all_seats setup))

-- what is returned to a seat
abbrev pub returned_after : Setup → List Move → ℕ → ℕ
returned_after setup moves seat = returned (stakes_after setup moves) (stake_after setup moves seat)

-- the pots, the lowest first
abbrev pub pots_after : Setup → List Move → List PlainPot
pots_after setup moves = pots_of (stakes_after setup moves) (dead_antes_of setup)

-- what is shared of the pots: each pot minus its rake
abbrev pub nets_after : Setup → List Move → List PlainPot
nets_after setup moves = nets_of setup.rakes (pots_after setup moves)

-- what a seat ends with: the chips that it has left, what is returned to it, and its shares of the
-- pots, given what each seat gets of each pot
abbrev pub finishing_stack : Setup → List Move → List (ℕ → ℕ) → ℕ → ℕ
finishing_stack setup moves shares seat =
    chips_left setup moves seat
    + (returned_after setup moves seat + sum_by (λ share. share seat) shares)

-- the shares of a hand that is won by folds: each pot minus its rake goes to the last live seat,
-- the only one that may win it
abbrev pub shares_by_folds : Setup → List Move → List (ℕ → ℕ)
shares_by_folds setup moves = map whole_share (nets_after setup moves)

-- what a seat ends with in a hand that is won by folds
abbrev pub stack_by_folds : Setup → List Move → ℕ → ℕ
stack_by_folds setup moves seat = finishing_stack setup moves (shares_by_folds setup moves) seat
