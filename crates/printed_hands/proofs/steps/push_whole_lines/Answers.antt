-- All events of the hand, and then its ending.
use Rattle.std.proofs.Common.{◌++◌, ◌∙◌, List, ℕ, ap, append_assoc, string_bytes}
use Rattle.std.proofs.lemmas.Result.{on_ok_weaker}
use Rattle.hand_canon.specs.SoundRecord.{script_said}
use Rattle.play_event.specs.Past.{Past}
use Rattle.play_event.specs.Scripts.{past_at_end}
use Rattle.printed_hands.specs.Ending.{ending_lines}
use Rattle.printed_hands.specs.Steps.{head_lines, step_lines}
use Rattle.printed_hands.proofs.Printed.{whole_begun, whole_past}
use Rattle.printed_hands.proofs.steps.push_whole_lines.Goals as goal

pub push_begun_lines-requires-clause-begun : goal.push_begun_lines-requires-clause-begun
push_begun_lines-requires-clause-begun c = whole_begun c.args.hand.now c.args.trace.now _ c.len-events.ensures c.requires.traced

pub returns : goal.returns
returns c =
    let hand = c.args.hand.now in
    let old = string_bytes c.args.text.now in
    let head = head_lines c.args.number hand.setup in
    let steps = step_lines hand.setup (past_at_end hand.setup (script_said hand)) in
    let ending = ending_lines c.args.trace.now in
    on_ok_weaker c.push_ending.result
    (λ more. more
    ∙ ap (λ (text : List ℕ). text ++ ending)
    (c.in_ok-push_begun_lines.ensures ∙ ap (λ (past : Past). old ++ (head ++ step_lines hand.setup past)) (whole_past hand _ c.len-events.ensures))
    ∙ append_assoc old (head ++ steps) ending
    ∙ ap (λ (text : List ℕ). old ++ text) (append_assoc head steps ending))
    c.push_ending.ensures
