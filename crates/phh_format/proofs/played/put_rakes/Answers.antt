use Rattle.std.proofs.Common.{◌≤◌, ℕ, List, slice_index, subst, sym}
use Rattle.chip_ledger.specs.declared.seat_row.TheConstants.{MOST_AMOUNT}
use Rattle.phh_format.proofs.Bounds.{rake_within}
use Rattle.phh_format.proofs.played.put_rakes.Goals as goal

pub put_amounts-requires-clause-bounded : goal.put_amounts-requires-clause-bounded
put_amounts-requires-clause-bounded c k =
    subst (λ (rakes : List ℕ). slice_index rakes k ≤ MOST_AMOUNT) (sym c.as_slice-rakes.ensures) (rake_within c.args.trace.now.setup.rakes c.requires.rakes k)
