-- The empty pot is the filler.
use Rattle.std.proofs.Common.{ap}
use Rattle.chip_ledger.specs.declared.live_row.LiveRow.{LiveRow}
use Rattle.chip_ledger.specs.declared.pots.Pot.{Pot}
use Rattle.chip_ledger.specs.Fillers.{no_pot}
use Rattle.chip_ledger.proofs.Fillers.{no_flags_same}
use Rattle.chip_ledger.proofs.pots.empty_pot.Goals as goal

pub returns : goal.returns
unfolding no_pot
returns c =
    let pot : LiveRow → Pot = λ row. record { chips = 0; eligible = row } in
    ap pot (no_flags_same c.new.result c.new.ensures.seats c.new.ensures.all_false)
