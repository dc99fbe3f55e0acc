-- The part is begun by the events before the first illegal one.
use Rattle.std.proofs.Common.{arith}
use Rattle.std.proofs.lemmas.List.{length-map}
use Rattle.std.proofs.lemmas.Result.{on_ok_weaker}
use Rattle.play_event.specs.Said.{said_of}
use Rattle.printed_hands.specs.Steps.{begun_lines}
use Rattle.poker_cli.specs.Each as each
use Rattle.poker_cli.proofs.each_replay.push_legal_part.Goals as goal

pub push_begun_lines-requires-clause-begun : goal.push_begun_lines-requires-clause-begun
push_begun_lines-requires-clause-begun c =
    let part = c.in_ok-part.ensures in
    record {
      there = omega (arith, part.beginning.within, length-map c.args.hand.now.record.now.script said_of);
      legal = part.legal;
      are = part.are;
    }

pub returns : goal.returns
returns c =
    let part = c.in_ok-part.ensures in
    on_ok_weaker c.push_begun_lines.result
    (λ more. record {
      added = begun_lines c.args.number c.args.hand.now.record.now c.in_ok-part.part.events;
      are = each.Begun c.args._fault.now c.requires c.in_ok-part.part.events part.beginning;
      said = more;
    })
    c.push_begun_lines.ensures
