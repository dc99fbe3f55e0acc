use Rattle.std.proofs.Common.{map, arith}
use Rattle.ohh_rounds.specs.Steps.{plain_step}
use Rattle.ohh_rounds.proofs.Counts.{script_moves, script_others}
use Rattle.ohh_rounds.proofs.play.read_rounds.Goals as goal

pub returns-clause-within : goal.returns-clause-within
returns-clause-within c =
    let seen = c.in_ok-seen.seen in
    let steps = map plain_step seen.steps.items in
    let script = c.in_ok-script.script in
    let is = c.in_ok-script.ensures.script in
    record {
      moves = omega (arith, script_moves seen.setting.table.stacks.seats seen.setting.hole_cards steps script is, seen.moves_are, seen.few_moves);
      others = omega (arith, script_others seen.setting.table.stacks.seats seen.setting.hole_cards steps script is, seen.others_are, seen.few_others);
    }

pub returns-clause-moves : goal.returns-clause-moves
returns-clause-moves c =
    let seen = c.in_ok-seen.seen in
    let steps = map plain_step seen.steps.items in
    omega (arith, script_moves seen.setting.table.stacks.seats seen.setting.hole_cards steps c.in_ok-script.script c.in_ok-script.ensures.script, seen.moves_are)
