use Rattle.std.proofs.Common.{[], ◌∷◌, ap, length, arith, length-append, refl}
use Rattle.play_event.specs.PackedForm.{packed_event}
use Rattle.play_event.proofs.PackedScripts.{kept, unchanged_events, pushed, pushed_events, length-packed_events}
use Rattle.play_event.proofs.script.Script.push.Goals as goal
use Rattle.card_set.proofs.Results.{on_err}

pub overflow_add-self : goal.overflow_add-self
overflow_add-self c =
    omega (arith, c.self.inside.counted, length-packed_events c.self.inside.script.events, ap length c.self.inside.script.packed)

pub invariant_of-self-inside : goal.invariant_of-self-inside
invariant_of-self-inside c =
    (kept c.self.inside.bytes.items c.self.inside.script _ c.in_err-append.ensures.unchanged, (c.self.inside.counted, tt))

pub returns-in_err-append-clause-unchanged : goal.returns-in_err-append-clause-unchanged
returns-in_err-append-clause-unchanged c =
    search (on_err, unchanged_events c.self.inside.bytes.items c.self.inside.script c.args.self.now c.self.view_is c.append.new.script.items c.in_err-append.ensures.unchanged)

pub invariant_of-self-inside-2 : goal.invariant_of-self-inside-2
invariant_of-self-inside-2 c =
    let grown = c.in_ok-append.ensures.appended in (
      pushed c.self.inside.bytes.items c.self.inside.script c.args.event (packed_event c.args.event) _ c.append.ensures.event refl grown,
      (omega (arith, c.self.inside.counted, length-append c.self.inside.script.events (c.args.event ∷ [])), tt),
    )

pub returns-clause-pushed : goal.returns-clause-pushed
returns-clause-pushed c =
    let grown = c.in_ok-append.ensures.appended in
    search (pushed_events c.self.inside.bytes.items c.self.inside.script c.args.self.now c.self.view_is c.args.event (packed_event c.args.event) c.append.new.script.items c.append.ensures.event refl grown)
