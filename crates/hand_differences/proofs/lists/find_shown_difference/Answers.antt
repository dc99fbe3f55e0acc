-- If a seat was shown in both hands or in neither, the first one comes later.
use Rattle.std.proofs.Common.{◌∙◌, not, sym}
use Rattle.chip_ledger.specs.LiveRow.{flag_of}
use Rattle.hand_differences.proofs.FirstNumbers.{next_number}
use Rattle.hand_differences.specs.SameParts.{is_same_test}
use Rattle.hand_differences.proofs.lists.find_shown_difference.Goals as goal

pub loop-index-preserved : goal.loop-index-preserved
loop-index-preserved c =
    next_number (λ seat. not (is_same_test (flag_of c.args.shown.now seat) (flag_of c.args.others.now seat))) c.loop-index.index c.args.shown.now.seats
    c.loop-index-test.true (sym c.is_shown_in_one.ensures ∙ c.if-is_shown_in_one.false) c.loop-index.invariant
