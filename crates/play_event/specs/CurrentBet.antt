-- The current bet, what is to call, and by how much a raise must exceed the current bet.
use Rattle.std.specs.Prelude.{ℕ, ◌+◌, ◌-◌, ◌*◌, ◌&&◌, ◌||◌, ◌==◌, nat_le, max, if◌then◌else◌, List, [], ◌∷◌, map, sum}
use Rattle.chip_ledger.specs.Greatest.{greatest}
use Rattle.play_event.specs.declared.setup.Setup.{Setup}
use Rattle.play_event.specs.Past.{Move, is_raising, is_bringing_in}
use Rattle.play_event.specs.Streets.{unit}
use Rattle.play_event.specs.Chips.{chips_put, street_chips}
use Rattle.play_event.specs.Seats.{all_seats}

-- the current bet: the most chips that any seat has put in on this street
abbrev pub current_bet : Setup → List Move → ℕ → ℕ
current_bet setup moves street = greatest (map (street_chips setup moves street) (all_seats setup))

-- the chips that a seat has to call
abbrev pub to_call : Setup → List Move → ℕ → ℕ → ℕ
to_call setup moves street seat = current_bet setup moves street
    - street_chips setup moves street seat

-- by how much the newest of the moves exceeded the current bet before it
abbrev pub rise : Setup → Move → List Move → ℕ
rise setup move before = move.to - current_bet setup before move.street

-- The smallest full raise, in no limit and pot limit: the minimum bet, or the largest full raise on
-- this street. A raise is full if it exceeds the current bet by at least the smallest full raise
-- before it.
abbrev pub full_raise : Setup → List Move → ℕ → ℕ
full_raise setup [] street = setup.min_bet
full_raise setup (move ∷ before) street =
    if (move.street == street) && is_raising move.act
    && nat_le (full_raise setup before street) (rise setup move before)
    then max (rise setup move before) (full_raise setup before street)
    else full_raise setup before street

-- for each raise of this street, its target plus the amount by which it exceeded the current bet
-- before it
abbrev pub doubled_raises : Setup → List Move → ℕ → List ℕ
doubled_raises setup [] street = []
doubled_raises setup (move ∷ before) street =
    if (move.street == street) && is_raising move.act
    then (2 * move.to - current_bet setup before street) ∷ doubled_raises setup before street
    else doubled_raises setup before street

-- the current bet before the street's first move: that of the blinds on the first street, and 0 on
-- another
abbrev pub starting_bet : Setup → ℕ → ℕ
starting_bet setup street = current_bet setup [] street

-- The last full bet, in fixed limit: the target of the newest raise or bring-in of this street that
-- exceeded the full bet before it by at least one bet size. Before any it is the starting bet if
-- that is at least one bet size, and otherwise 0.
abbrev pub full_bet : Setup → List Move → ℕ → ℕ
full_bet setup [] street =
    if nat_le (unit setup street) (starting_bet setup street)
    then starting_bet setup street
    else 0
full_bet setup (move ∷ before) street =
    if (move.street == street) && (is_raising move.act || is_bringing_in move.act)
    && nat_le (full_bet setup before street + unit setup street) move.to
    then move.to
    else full_bet setup before street

-- all chips that were put in
abbrev pub all_chips_put : Setup → List Move → ℕ
all_chips_put setup moves = sum (map (chips_put setup moves) (all_seats setup))
