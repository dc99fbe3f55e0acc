-- Each event is played after those so far, and in the end all are played.
use Rattle.std.proofs.Common.{◌≡◌, ℕ, None, List, sym, ap, subst, ◌∙◌, arith}
use Rattle.std.proofs.lemmas.Result.{err_from_is_err_and}
use Rattle.replay_core.specs.Together.{StandTogether}
use Rattle.play_event.specs.declared.setup.Rules.{Rules}
use Rattle.play_event.specs.declared.setup.Setup.{Setup}
use Rattle.play_event.specs.Laws.{AreLegal}
use Rattle.play_event.specs.Past.{Past}
use Rattle.play_event.specs.Reasons.{why}
use Rattle.play_event.specs.Said.{Said, said_of}
use Rattle.play_event.specs.Scripts.{past_of, with_event}
use Rattle.replay_core.specs.Events.{AreMovesOf}
use Rattle.replay_core.proofs.SoFar.{moves_before, one_more, refused_at}
use Rattle.replay_core.proofs.playing.play_events.Goals as goal
use Rattle.play_event.proofs.SaidSoFar.{all_played, is_next, none_left, so_far}

pub returns-in_err-play_event-clause-fault : goal.returns-in_err-play_event-clause-fault
returns-in_err-play_event-clause-fault g c =
    let p = err_from_is_err_and c.from_residual.result c.from_residual.ensures.1 in
    let first = c.args.hand.now.betting in
    let script = c.args.script.now in
    let count : ℕ = c.loop-event.count in
    let inv = c.loop-event.invariant in
    let next = is_next script count c.in-Some.event c.next.new.self (sym c.in-Some.ensures.first ∙ inv.left) in
    rw (p.1, p.2) (refused_at first.setup first.rules script count c.in-Some.event c.next.new.self c.loop-event.hand.betting c.loop-event.hand.cards c.loop-event.moves c.in_err-play_event.field-0.0 next inv.played inv.setup inv.rules
    (c.in_err-play_event.ensures.fault (past_of first.setup (so_far script count)) inv.played.stands))

pub returns-in_err-play_event-clause-part : goal.returns-in_err-play_event-clause-part
returns-in_err-play_event-clause-part g c =
    let p = err_from_is_err_and c.from_residual.result c.from_residual.ensures.1 in
    let first = c.args.hand.now.betting in
    let script = c.args.script.now in
    let count : ℕ = c.loop-event.count in
    let inv = c.loop-event.invariant in
    let next = is_next script count c.in-Some.event c.next.new.self (sym c.in-Some.ensures.first ∙ inv.left) in
    let refused = c.in_err-play_event.ensures.fault (past_of first.setup (so_far script count)) inv.played.stands in
    rw (p.1, p.2) (moves_before first.setup first.rules script count c.in-Some.event c.next.new.self c.loop-event.hand.betting c.loop-event.hand.cards c.loop-event.moves c.play_event.new.moves c.in_err-play_event.field-0.0 next inv.played c.in_err-play_event.ensures.kept
    (refused_at first.setup first.rules script count c.in-Some.event c.next.new.self c.loop-event.hand.betting c.loop-event.hand.cards c.loop-event.moves c.in_err-play_event.field-0.0 next inv.played inv.setup inv.rules refused)
    refused)

pub loop-event-preserved : goal.loop-event-preserved
loop-event-preserved g c =
    let first = c.args.hand.now.betting in
    let script = c.args.script.now in
    let count : ℕ = c.loop-event.count in
    let inv = c.loop-event.invariant in
    let b = c.loop-event.hand.betting in
    let new = c.play_event.new.hand in
    let event : Said = said_of c.in-Some.event in
    let past : Past = past_of first.setup (so_far script count) in
    let next = is_next script count c.in-Some.event c.next.new.self (sym c.in-Some.ensures.first ∙ inv.left) in
    let legal : why first.setup first.rules past event ≡ None =
    sym (ap (λ (s : Setup). why s b.rules past event) inv.setup ∙ ap (λ (r : Rules). why first.setup r past event) inv.rules) ∙ c.in_ok-play_event.ensures.legal past inv.played.stands in
    let stands = subst (λ (s : Setup). StandTogether new.betting new.cards (with_event s event past)) inv.setup (c.in_ok-play_event.ensures.stands past inv.played.stands) in
    let added = c.in_ok-play_event.ensures.moves past inv.played.stands (subst (λ (s : Setup). AreMovesOf s past c.loop-event.moves) (sym inv.setup) inv.played.moves) in
    let moves = subst (λ (s : Setup). AreMovesOf s (with_event s event past) c.play_event.new.moves) inv.setup added in
    record {
      left = next.left;
      within = omega (arith, next.within);
      played = one_more first.setup first.rules script count c.in-Some.event c.next.new.self b new.betting c.loop-event.hand.cards new.cards c.loop-event.moves c.play_event.new.moves next inv.played legal stands moves;
      setup = c.in_ok-play_event.ensures.same.setup ∙ inv.setup;
      rules = c.in_ok-play_event.ensures.same.rules ∙ inv.rules;
    }

pub returns-clause-legal : goal.returns-clause-legal
returns-clause-legal g c =
    let first = c.args.hand.now.betting in
    let inv = c.loop-event.invariant in
    let all = all_played c.args.script.now c.loop-event.count (none_left c.args.script.now c.loop-event.count (sym c.in_default.ensures.end.0 ∙ inv.left)) in
    subst (λ (events : List Said). AreLegal first.setup first.rules events) all inv.played.legal

pub returns-clause-count : goal.returns-clause-count
returns-clause-count g c =
    let inv = c.loop-event.invariant in
    omega (arith, inv.within, none_left c.args.script.now c.loop-event.count (sym c.in_default.ensures.end.0 ∙ inv.left))

pub returns-clause-stands : goal.returns-clause-stands
returns-clause-stands g c =
    let first = c.args.hand.now.betting in
    let inv = c.loop-event.invariant in
    let all = all_played c.args.script.now c.loop-event.count (none_left c.args.script.now c.loop-event.count (sym c.in_default.ensures.end.0 ∙ inv.left)) in
    subst (λ (events : List Said). StandTogether c.loop-event.hand.betting c.loop-event.hand.cards (past_of first.setup events)) all inv.played.stands

pub returns-clause-moves : goal.returns-clause-moves
returns-clause-moves g c =
    let first = c.args.hand.now.betting in
    let inv = c.loop-event.invariant in
    let all = all_played c.args.script.now c.loop-event.count (none_left c.args.script.now c.loop-event.count (sym c.in_default.ensures.end.0 ∙ inv.left)) in
    subst (λ (events : List Said). AreMovesOf first.setup (past_of first.setup events) c.loop-event.moves) all inv.played.moves
