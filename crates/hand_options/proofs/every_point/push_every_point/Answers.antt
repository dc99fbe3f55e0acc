-- At each point the options are those after as many events.
use Rattle.std.proofs.Common.{◌++◌, ◌∙◌, List, ℕ, [], ap, sym, append_assoc, string_bytes, arith}
use Rattle.std.proofs.lemmas.List.{append-nil}
use Rattle.replay_core.proofs.EndTrace.{few_events}
use Rattle.hand_options.specs.EveryPoint as points
use Rattle.hand_options.specs.EveryPoint.{HasOptionTexts}
use Rattle.hand_options.specs.Printed.{options_said}
use Rattle.hand_options.proofs.every_point.push_every_point.Goals as goal

pub overflow_add-point-end : goal.overflow_add-point-end
overflow_add-point-end c = omega (arith, few_events c.args.hand.now.script c.requires.sound.within, c.requires.there)

pub loop-point-init : goal.loop-point-init
loop-point-init c = record { added = []; are = points.NoPoint; said = sym (append-nil (string_bytes c.args.text.now)) }

pub loop-point-preserved : goal.loop-point-preserved
loop-point-preserved c =
    let inv = c.loop-point.invariant in
    let said = options_said c.args.number c.loop-point.point c.options_at-options.result in
    record {
      added = inv.added ++ said;
      are = points.OneMore c.loop-point.point inv.added inv.are c.options_at-options.result c.options_at-options.ensures.legal;
      said = c.in_ok-push_options.ensures ∙ ap (λ (text : List ℕ). text ++ said) inv.said ∙ append_assoc (string_bytes c.args.text.now) inv.added said;
    }
