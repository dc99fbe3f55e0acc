use Rattle.std.proofs.Common.{◌+◌, ◌∙◌, map, ap, arith, drop, refl}
use Rattle.std.proofs.lemmas.List.{drop_more, drop_all}
use Rattle.std.proofs.lemmas.Result.{err_from_is_err_and}
use Rattle.first_fault.specs.Reading.{◌>>=◌}
use Rattle.play_event.specs.Said.{numbered}
use Rattle.acpc_game.proofs.Steps.{fails_first}
use Rattle.acpc_reading.specs.Cards.{dealt, steps_after, steps_said, without_rest}
use Rattle.acpc_reading.specs.Left.{parts_left}
use Rattle.acpc_reading.specs.Scripts.{written_by}
use Rattle.acpc_reading.proofs.Dealing.{step_read, step_fails, steps_done, some_left}
use Rattle.acpc_reading.proofs.script.take_steps.Goals as goal

pub returns-in_err-next-clause-err : goal.returns-in_err-next-clause-err
unfolding steps_said
returns-in_err-next-clause-err c =
    let l = c.loop-step in
    let p = err_from_is_err_and c.from_residual.result c.from_residual.ensures.1 in
    let stop = c.in_err-next.field-0.0 in
    let whole = steps_after c.args.at (dealt (map numbered c.args.script.now) (parts_left 47 c.args.boards)) c.args.steps.now in
    rw (p.1, p.2) (fails_first stop whole (without_rest c.args.at) (step_fails c.args.at (written_by l.script l.pending) (drop l.step-index c.args.steps.now) whole stop _ (drop (l.step-index + 1) c.args.steps.now) (drop_more c.args.steps.now l.step-index _ c.loop-step-test.true) c.in_err-next.ensures.err l.invariant.read))

pub loop-step-preserved : goal.loop-step-preserved
loop-step-preserved c =
    let l = c.loop-step in
    let whole = steps_after c.args.at (dealt (map numbered c.args.script.now) (parts_left 47 c.args.boards)) c.args.steps.now in
    record {
      few = omega (arith, l.invariant.few, c.in_ok-next.ensures.number);
      small = c.in_ok-next.ensures.size;
      read = step_read c.args.at (written_by l.script l.pending) (drop l.step-index c.args.steps.now) whole _ (drop (l.step-index + 1) c.args.steps.now) (written_by c.take_step.new.script c.in_ok-next.next) (drop_more c.args.steps.now l.step-index _ c.loop-step-test.true) c.in_ok-next.ensures.ok l.invariant.read;
    }

pub returns-in-None-clause-ok : goal.returns-in-None-clause-ok
unfolding steps_said
returns-in-None-clause-ok c =
    let l = c.loop-step in
    let whole = steps_after c.args.at (dealt (map numbered c.args.script.now) (parts_left 47 c.args.boards)) c.args.steps.now in
    ap (λ read. read >>= without_rest c.args.at) (steps_done c.args.at (written_by l.script l.pending) (drop l.step-index c.args.steps.now) whole (drop_all l.step-index c.args.steps.now c.loop-step-test.false) l.invariant.read) ∙ rw c.in-None.is refl

pub returns-in-Some-clause-err : goal.returns-in-Some-clause-err
unfolding steps_said
returns-in-Some-clause-err c =
    let l = c.loop-step in
    let whole = steps_after c.args.at (dealt (map numbered c.args.script.now) (parts_left 47 c.args.boards)) c.args.steps.now in
    rw c.fault_at.ensures
    (ap (λ read. read >>= without_rest c.args.at) (steps_done c.args.at (written_by l.script l.pending) (drop l.step-index c.args.steps.now) whole (drop_all l.step-index c.args.steps.now c.loop-step-test.false) l.invariant.read)
    ∙ rw c.in-Some.is (some_left c.args.at (map numbered l.script) l.pending.number l.pending.size c.in-Some.field-0.now))
