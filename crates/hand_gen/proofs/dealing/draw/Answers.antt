-- The seat that draws next by the cards is the next to draw after the past, and if there is none,
-- the cards that are due are dealt.
use Rattle.std.proofs.Common.{ℕ, Option, Some, sym, ap, ◌∙◌}
use Rattle.chip_ledger.specs.SeatsSaid.{seat_said}
use Rattle.play_event.specs.declared.code.Code.{Code}
use Rattle.play_event.specs.Held.{held_slots}
use Rattle.play_event.specs.Table.{places_of}
use Rattle.hand_gen.specs.Coming.{deal_comes, discard_of, discard_or, held_by}
use Rattle.hand_gen.proofs.dealing.draw.Goals as goal

pub returns-in-Some-clause-event : goal.returns-in-Some-clause-event
returns-in-Some-clause-event g c = λ setup past due now game.
    let stock = c.args.stock.now in
    let seat = c.in-Some.seat in
    c.discard.ensures.event past now.stands
    ∙ ap (λ (code : Code). (discard_of (held_slots (Some seat.number) (places_of code past)) stock seat.number).event) (sym game)
    ∙ ap (λ (next : Option ℕ). (discard_or next (held_by setup past) (deal_comes setup past c.args.on stock) stock).event) (sym (ap seat_said c.in-Some.is) ∙ c.next_to_draw.ensures.next setup past due now)

pub returns-in-Some-clause-left : goal.returns-in-Some-clause-left
returns-in-Some-clause-left g c = λ setup past due now.
    let stock = c.args.stock.now in
    c.discard.ensures.left
    ∙ ap (λ (next : Option ℕ). (discard_or next (held_by setup past) (deal_comes setup past c.args.on stock) stock).left) (sym (ap seat_said c.in-Some.is) ∙ c.next_to_draw.ensures.next setup past due now)

pub returns-in-None-clause-event : goal.returns-in-None-clause-event
returns-in-None-clause-event g c = λ setup past due now game.
    let stock = c.args.stock.now in
    c.deal.ensures.event setup past due now
    ∙ ap (λ (next : Option ℕ). (discard_or next (held_by setup past) (deal_comes setup past c.args.on stock) stock).event) (sym (ap seat_said c.in-None.is) ∙ c.next_to_draw.ensures.next setup past due now)

pub returns-in-None-clause-left : goal.returns-in-None-clause-left
returns-in-None-clause-left g c = λ setup past due now.
    let stock = c.args.stock.now in
    c.deal.ensures.left setup past due now
    ∙ ap (λ (next : Option ℕ). (discard_or next (held_by setup past) (deal_comes setup past c.args.on stock) stock).left) (sym (ap seat_said c.in-None.is) ∙ c.next_to_draw.ensures.next setup past due now)
