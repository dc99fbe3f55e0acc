-- The verdict comes after the lines.
use Rattle.std.proofs.Common.{List, ℕ, ◌++◌, ◌∙◌, ap, refl, append_assoc, string_bytes}
use Rattle.std.proofs.lemmas.Result.{on_ok_weaker}
use Rattle.poker_cli.specs.Each.{refusal_line}
use Rattle.poker_cli.proofs.each_replay.push_hand.Goals as goal

pub returns : goal.returns
returns c =
    let hand = c.args.hand.now.record.now in
    let own = c.in_ok-push_own_lines.ensures in
    let line = refusal_line c.args.number hand c.in_ok-why.why in
    on_ok_weaker c.push_refusal_line.result
    (λ more. record {
      added = own.added ++ line;
      are = record { lines = own.added; are = own.are; why = c.in_ok-why.why; verdict = c.in_ok-why.ensures; said = refl };
      said = more ∙ ap (λ (text : List ℕ). text ++ line) own.said ∙ append_assoc (string_bytes c.args.text.now) own.added line;
    })
    (c.push_refusal_line.ensures hand)
