-- Each event has its line, after those so far.
use Rattle.std.proofs.Common.{◌<◌, ◌+◌, ◌∙◌, List, ℕ, map, sym, subst, string_bytes, arith}
use Rattle.std.proofs.lemmas.List.{length-map}
use Rattle.std.proofs.lemmas.Option.{slice_get_within}
use Rattle.play_event.specs.Past.{moves_of}
use Rattle.play_event.specs.Played.{move_said}
use Rattle.play_event.specs.Trace.{traced_move}
use Rattle.printed_hands.proofs.Pasts.{moves_few}
use Rattle.printed_hands.proofs.Printed.{ArePrinted, cards_printed, count_is, move_printed, next_move, none_printed, past_to, steps_printed}
use Rattle.printed_hands.proofs.steps.push_steps.Goals as goal

pub loop-event-init : goal.loop-event-init
loop-event-init c =
    record {
      few = omega arith;
      printed = none_printed c.args.hand.now c.posted_row-put.result c.cursor-cursor.result (string_bytes c.args.text.now) c.cursor-cursor.ensures c.posted_row-put.ensures;
    }

pub get-moved-requires : goal.get-moved-requires
get-moved-requires c =
    let hand = c.args.hand.now in
    let moves = c.args.moves.now in
    let before = string_bytes c.args.text.now in
    let more : c.loop-event.number < c.args.events = omega (arith, c.loop-event.invariant.few, c.if-number-events.false) in
    let next = next_move hand moves c.args.events c.loop-event.number c.loop-event.made c.loop-event.put c.loop-event.cursor c.next.new.self c.in-Some.event before (string_bytes c.loop-event.text) c.requires.valid c.requires.begun more c.loop-event.invariant.printed (sym c.in-Some.ensures.first) (sym c.is_move.ensures ∙ c.if-is_move.true) in
    omega (arith, slice_get_within (map move_said moves) c.loop-event.made (traced_move hand.setup next.move (moves_of (past_to hand c.loop-event.number))) next.here, length-map moves move_said)

pub overflow_add-made : goal.overflow_add-made
overflow_add-made c =
    let hand = c.args.hand.now in
    let inv = c.loop-event.invariant in
    omega (arith, inv.printed.made_is, moves_few (past_to hand c.loop-event.number), count_is hand c.loop-event.number inv.printed.within, inv.few, c.if-number-events.false)

pub push_move-requires-clause-may_add : goal.push_move-requires-clause-may_add
push_move-requires-clause-may_add c =
    let hand = c.args.hand.now in
    let before = string_bytes c.args.text.now in
    let more : c.loop-event.number < c.args.events = omega (arith, c.loop-event.invariant.few, c.if-number-events.false) in
    let next = next_move hand c.args.moves.now c.args.events c.loop-event.number c.loop-event.made c.loop-event.put c.loop-event.cursor c.next.new.self c.in-Some.event before (string_bytes c.loop-event.text) c.requires.valid c.requires.begun more c.loop-event.invariant.printed (sym c.in-Some.ensures.first) (sym c.is_move.ensures ∙ c.if-is_move.true) in
    next.may_add c.get-moved.result c.get-moved.ensures

pub loop-event-preserved-in-Continue-1 : goal.loop-event-preserved-in-Continue-1
loop-event-preserved-in-Continue-1 c =
    let hand = c.args.hand.now in
    let moves = c.args.moves.now in
    let before = string_bytes c.args.text.now in
    let inv = c.loop-event.invariant in
    let more : c.loop-event.number < c.args.events = omega (arith, inv.few, c.if-number-events.false) in
    let base = moves_of (past_to hand c.loop-event.number) in
    let next = next_move hand moves c.args.events c.loop-event.number c.loop-event.made c.loop-event.put c.loop-event.cursor c.next.new.self c.in-Some.event before (string_bytes c.loop-event.text) c.requires.valid c.requires.begun more inv.printed (sym c.in-Some.ensures.first) (sym c.is_move.ensures ∙ c.if-is_move.true) in
    record {
      few = omega (arith, more);
      printed =
          subst (λ (text : List ℕ). ArePrinted hand (c.loop-event.number + 1) (c.loop-event.made + 1) c.push_move.new.put c.next.new.self before text)
          (sym (c.in_ok-push_move.ensures.line base inv.printed.has_put))
          (move_printed hand moves c.loop-event.number c.loop-event.made c.loop-event.put c.push_move.new.put c.loop-event.cursor c.next.new.self c.in-Some.event c.get-moved.result before (string_bytes c.loop-event.text) inv.printed next c.get-moved.ensures (c.in_ok-push_move.ensures.put base inv.printed.has_put));
    }

pub loop-event-preserved : goal.loop-event-preserved
loop-event-preserved c =
    let hand = c.args.hand.now in
    let before = string_bytes c.args.text.now in
    let inv = c.loop-event.invariant in
    let more : c.loop-event.number < c.args.events = omega (arith, inv.few, c.if-number-events.false) in
    let base = moves_of (past_to hand c.loop-event.number) in
    record {
      few = omega (arith, more);
      printed =
          subst (λ (text : List ℕ). ArePrinted hand (c.loop-event.number + 1) c.loop-event.made c.loop-event.put c.next.new.self before text)
          (sym (c.in_ok-push_event.ensures base inv.printed.has_put))
          (cards_printed hand c.loop-event.number c.loop-event.made c.loop-event.put c.loop-event.cursor c.next.new.self c.in-Some.event before (string_bytes c.loop-event.text) inv.printed (sym c.in-Some.ensures.first) (sym c.is_move.ensures ∙ c.if-is_move.false));
    }

pub returns : goal.returns
returns c =
    let inv = c.loop-event.invariant in
    steps_printed c.args.hand.now c.args.moves.now c.args.events c.loop-event.number c.loop-event.made c.loop-event.put c.loop-event.cursor (string_bytes c.args.text.now) (string_bytes c.loop-event.text)
    c.requires.begun inv.few inv.printed (sym c.in_default.ensures.end.0)
