-- The first hand that differs is the first of those that are left.
use Rattle.std.proofs.Common.{◌≡◌}
use Rattle.poker_cli.specs.Compare.{first_different}
use Rattle.poker_cli.proofs.FirstDifferent.{different_from}
use Rattle.poker_cli.proofs.compare.find_first_different.Given as goal

abbrev pub invariant-loop-place : goal.invariant-loop-place
invariant-loop-place l = different_from l.notes l.plays l.others l.place ≡ first_different l.notes 0 l.plays l.others
