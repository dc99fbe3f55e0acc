-- A discard is answered as the rules do, and if it is refused the state is unchanged.
use Rattle.std.proofs.Common.{◌≡◌, ℕ, Some, OnOk, rules, ap, subst, refl, ◌∙◌}
use Rattle.card_places.specs.Discarded.{IsDiscarded}
use Rattle.card_places.specs.Refusals.{discard_reason}
use Rattle.card_set.specs.Row.{slots_of}
use Rattle.play_event.specs.declared.reason.Due.{Due}
use Rattle.play_event.specs.declared.reason.Illegal.TheVariants as reasons
use Rattle.play_event.specs.Said.{kind_said}
use Rattle.deal_core.proofs.Answers.{discard_answered}
use Rattle.deal_core.proofs.Same.{of_itself, one_hand}
use Rattle.deal_core.proofs.cards.Cards.discard.Goals as goal
use Rattle.card_set.proofs.Results.{if_err, on_ok}

pub returns-in-Over : goal.returns-in-Over
returns-in-Over g c =
    let t = c.self.inside.state in
    let cards = slots_of c.in-Discard.cards in
    rw (← c.self.view_is)
    (discard_answered t t c.args.due c.args.live.now c.in-Discard.seat.number cards c.args.event.now.kind _
    (ap kind_said c.in-Discard.is) tt (ap (λ (due : Due). discard_reason t c.args.live.now due c.in-Discard.seat.number cards) c.in-Over.is) (λ on street. tt) (of_itself t) refl)

pub returns-in-Draw : goal.returns-in-Draw
returns-in-Draw g c =
    let t = c.self.inside.state in
    let seat = c.in-Discard.seat.number in
    let cards = slots_of c.in-Discard.cards in
    let on_draw = ap (λ (due : Due). discard_reason t c.args.live.now due seat cards) c.in-Draw.is in
    let answer = c.discard.result in
    rw (← c.self.view_is)
    (discard_answered t c.discard.new.self c.args.due c.args.live.now seat cards c.args.event.now.kind answer
    (ap kind_said c.in-Discard.is)
    (on_ok answer (λ none. on_draw ∙ none) c.discard.ensures.right) (if_err answer (λ reason is. on_draw ∙ is) c.discard.ensures.wrong)
    (λ on street.
    let same : c.in-Draw.on ≡ on = cc in
    subst (λ (s : ℕ). OnOk answer (IsDiscarded t c.discard.new.self s seat cards)) same c.discard.ensures.discarded) (one_hand t c.discard.new.self c.discard.ensures.table c.discard.ensures.seats) c.discard.ensures.unchanged)

pub returns-in-Deal : goal.returns-in-Deal
returns-in-Deal g c =
    let t = c.self.inside.state in
    let cards = slots_of c.in-Discard.cards in
    let wrong : discard_reason t c.args.live.now c.args.due c.in-Discard.seat.number cards ≡ Some reasons.WrongKind = search rules in
    rw (← c.self.view_is)
    (discard_answered t t c.args.due c.args.live.now c.in-Discard.seat.number cards c.args.event.now.kind _
    (ap kind_said c.in-Discard.is) tt wrong (λ on street. tt) (of_itself t) refl)
