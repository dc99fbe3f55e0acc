use Rattle.std.proofs.Common.{◌≡◌, [], ◌∙◌, None, Some, Ok, ap, map, subst, sym}
use Rattle.std.proofs.lemmas.Result.{err_from_is_err_and}
use Rattle.serde_json.specs.View.{view}
use Rattle.first_fault.specs.Reading.{◌>>=◌, Fails, added_from}
use Rattle.ohh_rounds.specs.declared.hand_context.HandContext.{HandContext}
use Rattle.ohh_rounds.specs.Rounds.{round_said, steps_said}
use Rattle.ohh_rounds.specs.HandContext.{plain_setting}
use Rattle.ohh_rounds.specs.Steps.{plain_step}
use Rattle.first_fault.proofs.Added.{added, all_added, not_added}
use Rattle.first_fault.proofs.FailsThen.{fails_then}
use Rattle.ohh_rounds.proofs.rounds.read_all_rounds.Goals as goal

pub returns-in_err-street-clause-said : goal.returns-in_err-street-clause-said
unfolding steps_said
returns-in_err-street-clause-said c =
    let p = err_from_is_err_and c.from_residual-in_err-street.result c.from_residual-in_err-street.ensures.1 in
    let l = c.loop-index in
    let setting = c.args.setting.now in
    let form = round_said (plain_setting setting) in
    let whole = added_from (round_said (plain_setting setting)) (None, []) 0 (map view c.in_ok-values.values.now) in
    let fails = subst (λ (s : HandContext). Fails c.in_err-street.field-0.0 (round_said (plain_setting s) (l.last, map plain_step l.seen.steps.items) l.index (view c.index-values-index.result))) l.invariant.setting c.in_err-street.ensures.said in
    rw (p.1, p.2, c.in_ok-values.ensures) (fails_then c.in_err-street.field-0.0 whole (λ found. Ok found.1) (not_added view form c.in_err-street.field-0.0 (l.last, map plain_step l.seen.steps.items) c.in_ok-values.values.now l.index c.index-values-index.result whole c.loop-index-test.true (sym c.index-values-index.is) fails l.invariant.read))

pub loop-index-preserved : goal.loop-index-preserved
loop-index-preserved c =
    let l = c.loop-index in
    let setting = c.args.setting.now in
    let steps = map plain_step c.read_round.new.seen.steps.items in
    let read = subst (λ (s : HandContext). round_said (plain_setting s) (l.last, map plain_step l.seen.steps.items) l.index (view c.index-values-index.result) ≡ Ok (Some c.in_ok-street.street, steps)) l.invariant.setting c.in_ok-street.ensures.said in
    record {
      setting = c.read_round.ensures.setting ∙ l.invariant.setting;
      read = added view (round_said (plain_setting setting)) (l.last, map plain_step l.seen.steps.items) (Some c.in_ok-street.street, steps) c.in_ok-values.values.now l.index c.index-values-index.result (added_from (round_said (plain_setting setting)) (None, []) 0 (map view c.in_ok-values.values.now)) c.loop-index-test.true (sym c.index-values-index.is) read l.invariant.read;
    }

pub returns-clause-said : goal.returns-clause-said
unfolding steps_said
returns-clause-said c =
    let l = c.loop-index in
    rw c.in_ok-values.ensures (ap (λ found. found >>= λ x. Ok x.1) (all_added view (round_said (plain_setting c.args.setting.now)) (l.last, map plain_step l.seen.steps.items) c.in_ok-values.values.now l.index (added_from (round_said (plain_setting c.args.setting.now)) (None, []) 0 (map view c.in_ok-values.values.now)) c.loop-index-test.false l.invariant.read))
