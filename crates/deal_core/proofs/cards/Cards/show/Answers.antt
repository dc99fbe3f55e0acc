-- A show or a muck is answered as the rules do, and if it is refused the state is unchanged.
use Rattle.std.proofs.Common.{sym, ap, refl, ◌∙◌}
use Rattle.card_set.specs.Row.{cards_of}
use Rattle.play_event.specs.Said.{kind_said}
use Rattle.deal_core.proofs.Answers.{muck_answered, show_answered}
use Rattle.deal_core.proofs.Same.{of_itself, one_hand}
use Rattle.deal_core.proofs.cards.Cards.show.Goals as goal
use Rattle.card_set.proofs.Results.{if_err, on_ok}

pub returns-in-Some : goal.returns-in-Some
returns-in-Some g c =
    let t = c.self.inside.state in
    rw (← c.self.view_is)
    (show_answered t t c.args.due c.args.live.now c.args.settled c.in-Show.seat.number (cards_of c.in-Show.cards) c.args.event.now.kind _
    (ap kind_said c.in-Show.is) tt (c.in-Some.ensures.show_is_not_due (cards_of c.in-Show.cards)) tt (of_itself t) refl)

pub returns-in-None : goal.returns-in-None
returns-in-None g c =
    let cards = cards_of c.in-Show.cards in
    rw (← c.self.view_is)
    (show_answered c.self.inside.state c.show.new.self c.args.due c.args.live.now c.args.settled c.in-Show.seat.number cards c.args.event.now.kind c.show.result
    (ap kind_said c.in-Show.is)
    (on_ok c.show.result (λ none. c.in-None.ensures.show_is_due cards ∙ none) c.show.ensures.right)
    (if_err c.show.result (λ reason is. c.in-None.ensures.show_is_due cards ∙ is) c.show.ensures.wrong)
    c.show.ensures.shown (one_hand c.self.inside.state c.show.new.self c.show.ensures.table c.show.ensures.seats) c.show.ensures.unchanged)

pub returns-in-Some-illegal_muck : goal.returns-in-Some-illegal_muck
returns-in-Some-illegal_muck g c =
    let t = c.self.inside.state in
    rw (← c.self.view_is)
    (muck_answered t t c.args.due c.args.live.now c.args.settled c.in-Muck.seat.number c.args.event.now.kind _
    (ap kind_said c.in-Muck.is) tt (sym c.illegal_muck.ensures.wrong ∙ c.in-Some-illegal_muck.is) tt (of_itself t) refl)

pub returns-in-None-illegal_muck : goal.returns-in-None-illegal_muck
returns-in-None-illegal_muck g c =
    rw (← c.self.view_is)
    (muck_answered c.self.inside.state c.muck.new.self c.args.due c.args.live.now c.args.settled c.in-Muck.seat.number c.args.event.now.kind _
    (ap kind_said c.in-Muck.is) (sym c.illegal_muck.ensures.wrong ∙ c.in-None-illegal_muck.is) tt c.muck.ensures (one_hand c.self.inside.state c.muck.new.self c.muck.ensures.table c.muck.ensures.seats) tt)
