-- The options at every point, and the verdict after them.
use Rattle.std.proofs.Common.{◌++◌, ◌∙◌, List, ℕ, ap, arith}
use Rattle.std.proofs.lemmas.List.{length-map}
use Rattle.play_event.specs.Said.{said_of}
use Rattle.poker_cli.specs.Each.{refusal_line}
use Rattle.poker_cli.proofs.each_options.text_of_points.Goals as goal

pub push_every_point-requires-clause-there : goal.push_every_point-requires-clause-there
push_every_point-requires-clause-there c = omega (arith, c.in_ok-part.ensures.beginning.within, length-map c.args.hand.now.record.now.script said_of)

pub push_every_point-requires-clause-legal_before : goal.push_every_point-requires-clause-legal_before
push_every_point-requires-clause-legal_before c = c.in_ok-part.ensures.beginning.legal

pub returns : goal.returns
returns c =
    let hand = c.args.hand.now.record.now in
    let texts = c.in_ok-push_every_point.ensures in
    let line = refusal_line c.args.number hand c.in_ok-why.why in
    record {
      events = c.in_ok-part.part.events;
      beginning = c.in_ok-part.ensures.beginning;
      said = record {
        lines = texts.added;
        are = texts.are;
        why = c.in_ok-why.why;
        verdict = c.in_ok-why.ensures;
        said = c.in_ok-push_refusal_line.ensures hand
            ∙ ap (λ (text : List ℕ). text ++ line) (texts.said ∙ ap (λ (text : List ℕ). text ++ texts.added) c.new-text.ensures.bytes);
      };
    }
