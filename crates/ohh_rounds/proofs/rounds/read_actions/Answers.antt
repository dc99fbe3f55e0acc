use Rattle.std.proofs.Common.{◌≡◌, ◌∷◌, ◌++◌, [], ◌∙◌, Ok, ap, map, subst, sym}
use Rattle.std.proofs.lemmas.List.{map_push}
use Rattle.std.proofs.lemmas.Result.{err_from_is_err_and}
use Rattle.serde_json.specs.View.{view}
use Rattle.first_fault.specs.Reading.{◌>>=◌, Fails}
use Rattle.ohh_rounds.specs.declared.post.ActionLocation.{ActionLocation}
use Rattle.ohh_rounds.specs.declared.hand_context.HandContext.{HandContext}
use Rattle.ohh_rounds.specs.Actions.{step_said}
use Rattle.ohh_rounds.specs.Rounds.{action_added, actions_said}
use Rattle.ohh_rounds.specs.HandContext.{plain_setting}
use Rattle.ohh_rounds.specs.Steps.{plain_step}
use Rattle.first_fault.proofs.Added.{added, all_added, not_added}
use Rattle.first_fault.proofs.FailsThen.{fails_then}
use Rattle.ohh_rounds.proofs.rounds.read_actions.Goals as goal

pub returns-in_err-step-clause-said : goal.returns-in_err-step-clause-said
returns-in_err-step-clause-said c =
    let p = err_from_is_err_and c.from_residual-in_err-step.result c.from_residual-in_err-step.ensures.1 in
    let l = c.loop-action in
    let setting = c.args.seen.now.setting in
    let steps = map plain_step l.seen.steps.items in
    let place : ActionLocation = record { round = c.args.index; action = l.action } in
    let read = step_said (plain_setting setting) steps place (view c.index-values-action.result) in
    let fails = subst (λ (s : HandContext). Fails c.in_err-step.field-0.0 (step_said (plain_setting s) steps place (view c.index-values-action.result))) l.invariant.setting c.in_err-step.ensures.said in
    rw (p.1, p.2) (not_added view (action_added (plain_setting setting) c.args.index) c.in_err-step.field-0.0 steps c.in_ok-values.values.now l.action c.index-values-action.result (actions_said (plain_setting setting) c.args.index (map plain_step c.args.seen.now.steps.items) (view c.args.round.now)) c.loop-action-test.true (sym c.index-values-action.is) (fails_then c.in_err-step.field-0.0 read (λ step. Ok (steps ++ step ∷ [])) fails) l.invariant.read)

pub loop-action-preserved : goal.loop-action-preserved
loop-action-preserved c =
    let l = c.loop-action in
    let setting = c.args.seen.now.setting in
    let steps = map plain_step l.seen.steps.items in
    let step = c.in_ok-step.step in
    let place : ActionLocation = record { round = c.args.index; action = l.action } in
    let read = subst (λ (s : HandContext). step_said (plain_setting s) steps place (view c.index-values-action.result) ≡ Ok (plain_step step)) l.invariant.setting c.in_ok-step.ensures.said in
    let items = ap (map plain_step) c.in_ok-push.ensures.steps ∙ map_push plain_step l.seen.steps.items step in
    record {
      setting = c.push.ensures.setting ∙ l.invariant.setting;
      read = rw items (added view (action_added (plain_setting setting) c.args.index) steps (steps ++ plain_step step ∷ []) c.in_ok-values.values.now l.action c.index-values-action.result (actions_said (plain_setting setting) c.args.index (map plain_step c.args.seen.now.steps.items) (view c.args.round.now)) c.loop-action-test.true (sym c.index-values-action.is) (ap (λ found. found >>= λ x. Ok (steps ++ x ∷ [])) read) l.invariant.read);
    }

pub returns-clause-said : goal.returns-clause-said
returns-clause-said c =
    let l = c.loop-action in
    all_added view (action_added (plain_setting c.args.seen.now.setting) c.args.index) (map plain_step l.seen.steps.items) c.in_ok-values.values.now l.action (actions_said (plain_setting c.args.seen.now.setting) c.args.index (map plain_step c.args.seen.now.steps.items) (view c.args.round.now)) c.loop-action-test.false l.invariant.read
