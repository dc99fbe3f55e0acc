-- The best so far is that of the seats so far.
use Rattle.std.proofs.Common.{◌≡◌}
use Rattle.std.specs.Option.{option_map}
use Rattle.chip_ledger.specs.LiveRow.{flag_of}
use Rattle.showdown_split.specs.Scores.{points_of}
use Rattle.showdown_split.specs.SeatPoints.{best_to}
use Rattle.showdown_split.proofs.winners.best.Given as goal

abbrev pub invariant-loop-index : goal.invariant-loop-index
invariant-loop-index l = option_map (λ s. s.points) l.best ≡ best_to (flag_of l.contending) (points_of l.scores) l.index
