-- The stakes of the code, seen as those of the definitions.
use Rattle.std.specs.Prelude.{List}
use Rattle.chip_ledger.specs.PotRow.{stakes_of}
use Rattle.chip_ledger.specs.Pots.{Stake}
use Rattle.side_pots.specs.declared.stakes.Stakes.{Stakes}

-- the stakes of all seats
abbrev pub stakes_in : Stakes → List Stake
stakes_in stakes = stakes_of stakes.chips.now stakes.live.now
