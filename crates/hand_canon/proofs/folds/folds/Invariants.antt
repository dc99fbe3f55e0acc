use Rattle.std.proofs.Common.{◌≡◌, ◌≤◌, ℕ, take}
use Rattle.std.specs.List.{list_any}
use Rattle.chip_ledger.specs.LiveRow.{flag_of}
use Rattle.hand_canon.specs.RowTests.{is_fold_of}
use Rattle.hand_canon.proofs.folds.folds.Given as goal

-- the seats that fold by the moves so far are marked
abbrev pub invariant-loop-played : goal.invariant-loop-played
invariant-loop-played l = (l.folded.seats ≡ 10) × ((n : ℕ) → 1 ≤ n → flag_of l.folded n ≡ list_any (is_fold_of n) (take l.played-index l.moves))
