-- All events are legal, or those before the first illegal one.
use Rattle.std.proofs.Common.{arith}
use Rattle.replay_core.specs.Events.{said_by}
use Rattle.replay_core.proofs.EndTrace.{few_events}
use Rattle.replay_core.proofs.LegalParts.{part_under, whole_part}
use Rattle.replay_core.proofs.beginning.legal_part_of.Goals as goal

pub play_events-requires-clause-few : goal.play_events-requires-clause-few
play_events-requires-clause-few g c = omega (arith, few_events c.args.script.now c.requires.within)

pub returns-in-Ok : goal.returns-in-Ok
returns-in-Ok g c =
    let start = c.start-hand.result.betting in
    part_under c.args.setup.now start.setup c.args.rules.now start.rules (said_by c.args.script.now) c.in-Ok.events c.play_events.new.moves c.start-hand.ensures.setup c.start-hand.ensures.rules
    (whole_part start.setup start.rules c.args.script.now c.in-Ok.events c.play_events.new.moves c.in-Ok.ensures.count c.in-Ok.ensures.legal c.in-Ok.ensures.moves)
