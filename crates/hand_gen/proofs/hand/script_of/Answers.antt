-- Each step makes one more event, which comes nearer to the limits, or the script is complete, and
-- so it is legal.
use Rattle.std.proofs.Common.{◌≡◌, Bool, List, None, map, sym, subst, ◌∙◌, arith}
use Rattle.play_event.specs.PlayedScript.{IsWithinLimits}
use Rattle.hand_canon.specs.LegalHand.{IsLegalHand}
use Rattle.play_event.specs.HistoryRules.{history_rules}
use Rattle.play_event.specs.declared.event.Event.{Event}
use Rattle.play_event.specs.Said.{said_of}
use Rattle.hand_gen.specs.Made.{backward, next_event}
use Rattle.hand_gen.specs.MadeTo.{IsStep}
use Rattle.hand_gen.proofs.Underway.{few_so_far, first_made, made_legal, made_within, underway}
use Rattle.hand_gen.proofs.hand.script_of.Goals as goal

pub loop-script-init : goal.loop-script-init
loop-script-init g c =
    let hand = c.start-hand.result in
    first_made c.args.setup.now c.args.stock.now hand.betting hand.cards c.new-script.result c.new-script.ensures c.start-hand.ensures.stands c.start-hand.ensures.setup (c.start-hand.ensures.rules ∙ c.history_rules.ensures)

pub play_next-requires-clause-underway : goal.play_next-requires-clause-underway
play_next-requires-clause-underway g c =
    underway c.args.setup.now c.args.stock.now c.loop-script.hand.betting c.loop-script.hand.cards c.loop-script.script c.loop-script.stock c.requires.small c.requires.deck c.loop-script.invariant

pub play_next-requires-clause-few : goal.play_next-requires-clause-few
play_next-requires-clause-few g c =
    let going = underway c.args.setup.now c.args.stock.now c.loop-script.hand.betting c.loop-script.hand.cards c.loop-script.script c.loop-script.stock c.requires.small c.requires.deck c.loop-script.invariant in
    omega (arith, few_so_far c.loop-script.hand.betting c.loop-script.hand.cards c.loop-script.script c.loop-script.stock going)

pub loop-script-smaller : goal.loop-script-smaller
loop-script-smaller g c =
    let new = c.play_next.new in
    let step = subst (λ (came : Bool). IsStep c.args.setup.now c.args.stock.now c.loop-script.script new.hand.betting new.hand.cards new.script new.stock came) c.if-not-made.false
    (c.in_ok-made.ensures.step c.args.setup.now c.args.stock.now c.loop-script.invariant) in
    let going = underway c.args.setup.now c.args.stock.now c.loop-script.hand.betting c.loop-script.hand.cards c.loop-script.script c.loop-script.stock c.requires.small c.requires.deck c.loop-script.invariant in
    omega (arith, step.1, few_so_far c.loop-script.hand.betting c.loop-script.hand.cards c.loop-script.script c.loop-script.stock going)

pub loop-script-preserved : goal.loop-script-preserved
loop-script-preserved g c =
    let new = c.play_next.new in
    let step = subst (λ (came : Bool). IsStep c.args.setup.now c.args.stock.now c.loop-script.script new.hand.betting new.hand.cards new.script new.stock came) c.if-not-made.false
    (c.in_ok-made.ensures.step c.args.setup.now c.args.stock.now c.loop-script.invariant) in
    step.0

pub returns-then-not-made-clause-within : goal.returns-then-not-made-clause-within
returns-then-not-made-clause-within g c =
    let new = c.play_next.new in
    let step = subst (λ (came : Bool). IsStep c.args.setup.now c.args.stock.now c.loop-script.script new.hand.betting new.hand.cards new.script new.stock came) c.if-not-made.true
    (c.in_ok-made.ensures.step c.args.setup.now c.args.stock.now c.loop-script.invariant) in
    subst (λ (s : List Event). IsWithinLimits (map said_of s)) (sym step.0)
    (made_within c.args.setup.now c.args.stock.now c.loop-script.script c.requires.small c.requires.deck c.loop-script.invariant.come)

pub returns-then-not-made-clause-legal : goal.returns-then-not-made-clause-legal
returns-then-not-made-clause-legal g c =
    let new = c.play_next.new in
    let step = subst (λ (came : Bool). IsStep c.args.setup.now c.args.stock.now c.loop-script.script new.hand.betting new.hand.cards new.script new.stock came) c.if-not-made.true
    (c.in_ok-made.ensures.step c.args.setup.now c.args.stock.now c.loop-script.invariant) in
    let ended = subst (λ (s : List Event). next_event c.args.setup.now history_rules c.args.stock.now (backward s) ≡ None) step.0 step.1.ended in
    subst (λ (s : List Event). IsLegalHand c.args.setup.now history_rules (map said_of s)) (sym step.0)
    (made_legal c.args.setup.now c.args.stock.now c.loop-script.script c.requires.small c.requires.deck c.loop-script.invariant.come ended)
