-- All events are played, and betting and cards describe the end.
use Rattle.std.proofs.Common.{sym, subst, ◌∙◌, arith}
use Rattle.play_event.specs.declared.setup.Setup.{Setup}
use Rattle.play_event.specs.Scripts.{past_at_end}
use Rattle.replay_core.specs.Events.{AreMovesOf, said_by}
use Rattle.replay_core.proofs.Ended.{ended}
use Rattle.replay_core.proofs.EndTrace.{few_events}
use Rattle.replay_core.proofs.playing.play_out.Goals as goal

pub play_events-requires-clause-few : goal.play_events-requires-clause-few
play_events-requires-clause-few g c = omega (arith, few_events c.args.script.now c.requires.within)

pub returns-clause-ended : goal.returns-clause-ended
returns-clause-ended g c =
    let setup = c.args.setup.now in
    let rules = c.args.rules.now in
    let script = said_by c.args.script.now in
    let b = c.play_events.new.hand.betting in
    let t = c.play_events.new.hand.cards in
    let ends = ended setup rules script c.start-hand.result.betting b t c.due.result c.start-hand.ensures.setup c.start-hand.ensures.rules c.in_ok-events.ensures.setup c.in_ok-events.ensures.legal c.in_ok-events.ensures.stands c.due.ensures (sym c.is_unfinished.ensures ∙ c.if-is_unfinished.false) in
    c.in_ok-at_end.ensures setup rules script c.requires.code ends
    (subst (λ (s : Setup). AreMovesOf s (past_at_end s script) c.play_events.new.moves) c.start-hand.ensures.setup c.in_ok-events.ensures.moves)
