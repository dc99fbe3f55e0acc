use Rattle.std.proofs.Common.{◌≡◌, [], None, map, drop}
use Rattle.serde_json.specs.View.{view}
use Rattle.first_fault.specs.Reading.{added_from}
use Rattle.ohh_rounds.specs.Rounds.{round_said}
use Rattle.ohh_rounds.specs.HandContext.{plain_setting}
use Rattle.ohh_rounds.specs.Steps.{plain_step}
use Rattle.ohh_rounds.proofs.rounds.read_all_rounds.Given as goal

-- the steps so far, and those of the rounds that are left, are all of them
abbrev pub invariant-loop-index : goal.invariant-loop-index
invariant-loop-index l = record {
  setting : l.seen.setting ≡ l.setting;
  read : added_from (round_said (plain_setting l.setting)) (l.last, map plain_step l.seen.steps.items) l.index (map view (drop l.index l.values)) ≡ added_from (round_said (plain_setting l.setting)) (None, []) 0 (map view l.values);
}
