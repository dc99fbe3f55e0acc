use Rattle.std.proofs.Common.{◌≡◌, ◌≤◌, ◌+◌, ◌^◌, ◌++◌, length, map, sum_by}
use Rattle.serde_json.specs.View.{view}
use Rattle.ohh_writing.specs.declared.action.Round.{Round}
use Rattle.ohh_writing.specs.Rounds.{round_said}
use Rattle.ohh_writing.specs.Tree.{round_trees}
use Rattle.ohh_writing.proofs.trees.round_values.Given as goal

-- the trees so far and those of the rounds to come are those of all rounds, and the numbers to come
-- are small
abbrev pub invariant-loop-rest : goal.invariant-loop-rest
invariant-loop-rest l = record {
  few : l.number + sum_by (λ (round : Round). length round.actions.items) l.rest ≤ 2 ^ 32 + 1;
  trees : map view l.values.items ++ round_trees l.number (map round_said l.rest) ≡ round_trees 1 (map round_said l.rounds);
}

abbrev pub decreases-loop-rest : goal.decreases-loop-rest
decreases-loop-rest l = length l.rest
