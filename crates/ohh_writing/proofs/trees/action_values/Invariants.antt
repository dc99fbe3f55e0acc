use Rattle.std.proofs.Common.{◌≡◌, ◌+◌, ◌++◌, length, map}
use Rattle.serde_json.specs.View.{view}
use Rattle.ohh_writing.specs.Actions.{action_said}
use Rattle.ohh_writing.specs.Tree.{action_trees}
use Rattle.ohh_writing.proofs.trees.action_values.Given as goal

-- the trees so far and those of the actions to come are those of all actions
abbrev pub invariant-loop-rest : goal.invariant-loop-rest
invariant-loop-rest l = record {
  count : l.number + length l.rest ≡ l.first + length l.actions;
  trees : map view l.values.items ++ action_trees l.number (map action_said l.rest) ≡ action_trees l.first (map action_said l.actions);
}

abbrev pub decreases-loop-rest : goal.decreases-loop-rest
decreases-loop-rest l = length l.rest
