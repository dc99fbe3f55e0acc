-- Each event is legal, and is played after those so far.
use Rattle.std.proofs.Common.{◌≡◌, ℕ, List, sym, subst, ◌∙◌, arith}
use Rattle.play_event.specs.declared.setup.Setup.{Setup}
use Rattle.play_event.specs.Said.{Said, said_of}
use Rattle.play_event.specs.Scripts.{past_of, with_event}
use Rattle.play_event.proofs.SaidSoFar.{so_far}
use Rattle.replay_core.specs.Together.{StandTogether}
use Rattle.hand_options.proofs.FirstEvents.{legal_next, not_refused, one_left, this_next}
use Rattle.hand_options.proofs.playing.play_first.Goals as goal

pub unwrap-event-requires : goal.unwrap-event-requires
unwrap-event-requires g c =
    one_left c.args.script.now c.loop.counter c.next.result c.loop.cursor c.next.new.self (omega (arith, c.loop-test.true, c.requires.there)) c.loop.invariant.left c.next.ensures.end

pub unreachable-requires : goal.unreachable-requires
unreachable-requires g c =
    let first = c.args.hand.now.betting in
    let b = c.loop.hand.betting in
    let script = c.args.script.now in
    let count : ℕ = c.loop.counter in
    let inv = c.loop.invariant in
    let event = c.unwrap-event.result in
    let next = this_next script count c.next.result c.loop.cursor c.next.new.self event inv.left c.next.ensures.first c.unwrap-event.ensures in
    not_refused first.setup b.setup first.rules b.rules (past_of first.setup (so_far script count)) (said_of event) c.in-Err.field-0 inv.setup inv.rules
    (legal_next first.setup first.rules script c.args.events count event c.next.new.self c.requires.legal (omega (arith, c.loop-test.true)) next)
    (c.in-Err.ensures.advanced.refused (past_of first.setup (so_far script count)) inv.stands)

pub loop-preserved : goal.loop-preserved
loop-preserved g c =
    let first = c.args.hand.now.betting in
    let new = c.advance.new.self in
    let script = c.args.script.now in
    let count : ℕ = c.loop.counter in
    let inv = c.loop.invariant in
    let event = c.unwrap-event.result in
    let next = this_next script count c.next.result c.loop.cursor c.next.new.self event inv.left c.next.ensures.first c.unwrap-event.ensures in
    let stands = subst (λ (s : Setup). StandTogether new.betting new.cards (with_event s (said_of event) (past_of first.setup (so_far script count)))) inv.setup
    (c.in-Ok.ensures.advanced.stands (past_of first.setup (so_far script count)) inv.stands) in
    record {
      left = next.left;
      stands = subst (λ (events : List Said). StandTogether new.betting new.cards (past_of first.setup events)) (sym next.longer) stands;
      setup = c.in-Ok.ensures.advanced.same.hand.setup ∙ inv.setup;
      rules = c.in-Ok.ensures.advanced.same.hand.rules ∙ inv.rules;
    }

pub returns-clause-stands : goal.returns-clause-stands
returns-clause-stands g c =
    let first = c.args.hand.now.betting in
    let all : c.loop.counter ≡ c.args.events = omega (arith, c.loop-test.false) in
    subst (λ (n : ℕ). StandTogether c.loop.hand.betting c.loop.hand.cards (past_of first.setup (so_far c.args.script.now n))) all c.loop.invariant.stands
