use Rattle.std.proofs.Common.{◌≡◌, map, drop}
use Rattle.serde_json.specs.View.{view}
use Rattle.first_fault.specs.Reading.{added_from}
use Rattle.ohh_rounds.specs.Rounds.{action_added, actions_said}
use Rattle.ohh_rounds.specs.HandContext.{plain_setting}
use Rattle.ohh_rounds.specs.Steps.{plain_step}
use Rattle.ohh_rounds.proofs.rounds.read_actions.Given as goal

-- the steps so far, and those of the actions that are left, are all of them
abbrev pub invariant-loop-action : goal.invariant-loop-action
invariant-loop-action l = record {
  setting : l.seen.setting ≡ l.fn.seen.setting;
  read : added_from (action_added (plain_setting l.fn.seen.setting) l.index) (map plain_step l.seen.steps.items) l.action (map view (drop l.action l.values)) ≡ actions_said (plain_setting l.fn.seen.setting) l.index (map plain_step l.fn.seen.steps.items) (view l.round);
}
