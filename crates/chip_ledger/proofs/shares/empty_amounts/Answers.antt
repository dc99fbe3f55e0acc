-- The new row of two seats is the filler.
use Rattle.chip_ledger.proofs.Fillers.{no_amounts_same}
use Rattle.chip_ledger.proofs.shares.empty_amounts.Goals as goal

pub returns : goal.returns
returns c = no_amounts_same c.new.result c.new.ensures.seats c.new.ensures.all_zero
