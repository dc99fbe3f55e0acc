-- What may be dealt is owed, and what is dealt is answered as the rules do.
use Rattle.std.proofs.Common.{None, List, sym, ap, subst, refl, ◌∙◌}
use Rattle.card_set.specs.declared.card.Slot.{Slot}
use Rattle.card_set.specs.Row.{cards_of}
use Rattle.play_event.specs.Said.{kind_said}
use Rattle.play_event.specs.Said as said
use Rattle.card_places.specs.Dealt.{IsDealt}
use Rattle.card_places.specs.Refusals.{board_deal_reason}
use Rattle.card_places.proofs.Fits.{hole_owed, board_owed}
use Rattle.deal_core.proofs.Answers.{board_answered, hole_answered}
use Rattle.deal_core.proofs.Games.{due_in}
use Rattle.deal_core.proofs.Same.{of_itself}
use Rattle.deal_core.proofs.cards.Cards.deal.Goals as goal

pub put-requires : goal.put-requires
put-requires g c =
    rw (← c.self.view_is) λ on street.
    hole_owed c.self.inside.state c.args.live.now c.args.due on c.in-Hole.seat.number c.as_slice-known.result.now street
    (due_in c.self.inside.state.table.code g.V.Variant.CODE _ c.args.due c.self.invariant g.met.V.Variant.values.streets_is c.requires.due) (sym c.illegal_hole_deal.ensures ∙ c.in-None.is)

pub put-requires-in-None-illegal_board_deal : goal.put-requires-in-None-illegal_board_deal
put-requires-in-None-illegal_board_deal g c =
    let same = c.as_slice-in-None-illegal_board_deal.ensures ∙ sym c.as_slice.ensures in
    rw (← c.self-in-Board.view_is) λ on street.
    board_owed c.self-in-Board.inside.state c.args.due on c.as_slice-in-None-illegal_board_deal.result.now street
    (due_in c.self-in-Board.inside.state.table.code g.V.Variant.CODE _ c.args.due c.self-in-Board.invariant g.met.V.Variant.values.streets_is c.requires.due)
    (ap (board_deal_reason c.self-in-Board.inside.state c.args.due) same ∙ sym c.illegal_board_deal.ensures ∙ c.in-None-illegal_board_deal.is)

pub returns-in-Some : goal.returns-in-Some
returns-in-Some g c =
    let t = c.self.inside.state in
    rw (← c.self.view_is)
    (hole_answered t t c.args.due c.args.live.now c.in-Hole.seat.number c.as_slice-known.result.now c.args.event.now.kind _
    (ap kind_said c.in-Hole.is ∙ ap (said.Hole c.in-Hole.seat.number) (sym c.as_slice-known.ensures))
    tt (sym c.illegal_hole_deal.ensures ∙ c.in-Some.is) (λ on street. tt) (of_itself t) refl)

pub returns-in-None : goal.returns-in-None
returns-in-None g c =
    let t = c.self.inside.state in
    rw (← c.self.view_is)
    (hole_answered t c.put.new.self c.args.due c.args.live.now c.in-Hole.seat.number c.as_slice-known.result.now c.args.event.now.kind _
    (ap kind_said c.in-Hole.is ∙ ap (said.Hole c.in-Hole.seat.number) (sym c.as_slice-known.ensures))
    (sym c.illegal_hole_deal.ensures ∙ c.in-None.is) tt (rw c.self.view_is c.put.ensures.dealt) (rw c.self.view_is c.put.ensures.hand) tt)

pub returns-in-Some-illegal_board_deal : goal.returns-in-Some-illegal_board_deal
returns-in-Some-illegal_board_deal g c =
    let t = c.self-in-Board.inside.state in
    let same = c.as_slice.ensures ∙ c.slots-known.ensures in
    rw (← c.self-in-Board.view_is)
    (board_answered t t c.args.due c.args.live.now (cards_of c.in-Board.cards) c.args.event.now.kind _ (ap kind_said c.in-Board.is)
    tt (ap (board_deal_reason t c.args.due) (sym same) ∙ sym c.illegal_board_deal.ensures ∙ c.in-Some-illegal_board_deal.is) (λ on street. tt) (of_itself t) refl)

pub returns-in-None-illegal_board_deal : goal.returns-in-None-illegal_board_deal
returns-in-None-illegal_board_deal g c =
    let t = c.self-in-Board.inside.state in
    let same = c.as_slice.ensures ∙ c.slots-known.ensures in
    let laid = c.as_slice-in-None-illegal_board_deal.ensures ∙ c.slots-known.ensures in
    let put = c.put-in-None-illegal_board_deal in
    rw (← c.self-in-Board.view_is)
    (board_answered t put.new.self c.args.due c.args.live.now (cards_of c.in-Board.cards) c.args.event.now.kind _ (ap kind_said c.in-Board.is)
    (ap (board_deal_reason t c.args.due) (sym same) ∙ sym c.illegal_board_deal.ensures ∙ c.in-None-illegal_board_deal.is) tt
    (λ on street. subst (λ (cards : List Slot). IsDealt t put.new.self None on cards) laid (rw c.self-in-Board.view_is (put.ensures.dealt on street))) (rw c.self-in-Board.view_is put.ensures.hand) tt)
