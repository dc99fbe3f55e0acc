-- The head, and then the steps.
use Rattle.std.proofs.Common.{◌++◌, ◌∙◌, List, ℕ, ap, append_assoc, string_bytes}
use Rattle.std.proofs.lemmas.Result.{on_ok_weaker}
use Rattle.printed_hands.specs.Steps.{head_lines, steps_before}
use Rattle.printed_hands.proofs.steps.push_begun_lines.Goals as goal

pub returns : goal.returns
returns c =
    let hand = c.args.hand.now in
    on_ok_weaker c.push_steps.result
    (λ more. more ∙ ap (λ (text : List ℕ). text ++ steps_before hand c.args.events) c.in_ok-push_head.ensures
    ∙ append_assoc (string_bytes c.args.text.now) (head_lines c.args.number hand.setup) (steps_before hand c.args.events))
    c.push_steps.ensures
