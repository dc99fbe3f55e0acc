-- The greatest so far is that of the other seats so far.
use Rattle.std.proofs.Common.{◌≡◌}
use Rattle.chip_ledger.specs.declared.live_row.LiveRow.{LiveRow}
use Rattle.chip_ledger.specs.Pots.{greatest_other}
use Rattle.chip_ledger.proofs.Stakes.{stakes_upto}
use Rattle.side_pots.proofs.returns.greatest_of_others.Given as goal

abbrev pub invariant-loop-index : goal.invariant-loop-index
invariant-loop-index l =
    (live : LiveRow) → l.greatest ≡ greatest_other (stakes_upto l.puts live l.index) l.own.number
