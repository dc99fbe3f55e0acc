-- One more event is made, or the script is complete.
use Rattle.std.proofs.Common.{◌≡◌, ◌+◌, List, [], ◌∷◌, ◌++◌, length, refl, sym, ap, subst, ◌∙◌, arith, length-append}
use Rattle.play_event.specs.declared.event.Event.{Event}
use Rattle.play_event.specs.Past.{Past}
use Rattle.play_event.specs.Said.{kind_said}
use Rattle.play_event.specs.Scripts.{past_of}
use Rattle.hand_gen.specs.Made.{backward}
use Rattle.hand_gen.specs.MadeTo.{IsMadeTo}
use Rattle.hand_gen.proofs.MadeLaws.{nothing_more, one_event_more}
use Rattle.hand_gen.proofs.Underway.{not_refused}
use Rattle.hand_gen.proofs.hand.play_next.Goals as goal

pub returns-in-None-clause-step : goal.returns-in-None-clause-step
returns-in-None-clause-step g c = λ setup start made.
    let past : Past = past_of setup (backward c.args.script.now) in
    let it = nothing_more setup start c.args.hand.now.betting c.args.hand.now.cards c.args.script.now c.args.stock.now c.next.new.stock made (c.in-None.ensures.event past made.stands) (c.in-None.ensures.left past made.stands) in
    (refl, record { ended = it.0; left = it.1 })

pub returns-clause-step : goal.returns-clause-step
returns-clause-step g c = λ setup start made.
    let script : List Event = c.args.script.now in
    let past : Past = past_of setup (backward script) in
    let event : Event = record { at = c.len.result + 1; kind = c.in-Some.kind } in
    let hand = c.advance.new.self in
    let pushed : c.push.new.self ≡ script ++ event ∷ [] = c.in_ok-push.ensures.pushed in
    let more = one_event_more setup start c.args.hand.now.betting hand.betting c.args.hand.now.cards hand.cards script event c.args.stock.now c.next.new.stock made
    (c.in-Some.ensures.event past made.stands) (c.in-Some.ensures.left past made.stands) (c.in-Ok.ensures.advanced.stands past made.stands) c.in-Ok.ensures.advanced.same.hand.setup c.in-Ok.ensures.advanced.same.hand.rules (ap (λ n. n + 1) c.len.ensures) in (
      subst (λ (s : List Event). IsMadeTo setup start hand.betting hand.cards s c.next.new.stock) (sym pushed) more,
      ap length pushed ∙ omega (arith, length-append script (event ∷ [])),
    )

pub unreachable-requires : goal.unreachable-requires
unreachable-requires g c =
    let made = c.requires.underway.made in
    let past : Past = past_of c.args.hand.now.betting.setup (backward c.args.script.now) in
    not_refused c.args.hand.now.betting c.args.hand.now.cards c.args.script.now c.args.stock.now (kind_said c.in-Some.kind) c.in-Err.field-0 c.requires.underway
    (c.in-Some.ensures.event past made.stands) (c.in-Err.ensures.advanced.refused past made.stands)
