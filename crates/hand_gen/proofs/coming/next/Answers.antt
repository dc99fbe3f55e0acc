-- What comes is decided by what is due.
use Rattle.std.proofs.Common.{◌≡◌, sym, ap, ◌∙◌}
use Rattle.play_event.specs.declared.reason.Due.{Due}
use Rattle.play_event.specs.declared.reason.Due.TheVariants as dues
use Rattle.replay_core.proofs.Joined.{now_at}
use Rattle.hand_gen.specs.Coming.{Coming}
use Rattle.hand_gen.proofs.ComingLaws.{coming_at}
use Rattle.hand_gen.proofs.coming.next.Goals as goal

pub returns-in-Deal-clause-event : goal.returns-in-Deal-clause-event
returns-in-Deal-clause-event g c =
    let b = c.args.hand.now.betting in
    let t = c.args.hand.now.cards in
    let on = c.in-Deal.on in
    let is : b.due ≡ dues.Deal on = sym c.due.ensures.value ∙ c.in-Deal.is in
    λ past both.
    let now = now_at b t (dues.Deal on) c.live-live.result past both (sym is) (c.live-live.ensures.stands past both.betting) in
    c.deal.ensures.event b.setup past (dues.Deal on) now
    ∙ sym (ap (λ (x : Coming). x.event) (coming_at b.setup b.rules past c.args.stock.now b.street (dues.Deal on) (both.betting.turn_is ∙ ap (λ (d : Due). (b.street, d)) is)))

pub returns-in-Deal-clause-left : goal.returns-in-Deal-clause-left
returns-in-Deal-clause-left g c =
    let b = c.args.hand.now.betting in
    let t = c.args.hand.now.cards in
    let on = c.in-Deal.on in
    let is : b.due ≡ dues.Deal on = sym c.due.ensures.value ∙ c.in-Deal.is in
    λ past both.
    let now = now_at b t (dues.Deal on) c.live-live.result past both (sym is) (c.live-live.ensures.stands past both.betting) in
    c.deal.ensures.left b.setup past (dues.Deal on) now
    ∙ sym (ap (λ (x : Coming). x.left) (coming_at b.setup b.rules past c.args.stock.now b.street (dues.Deal on) (both.betting.turn_is ∙ ap (λ (d : Due). (b.street, d)) is)))

pub returns-in-Draw-clause-event : goal.returns-in-Draw-clause-event
returns-in-Draw-clause-event g c =
    let b = c.args.hand.now.betting in
    let t = c.args.hand.now.cards in
    let on = c.in-Draw.on in
    let is : b.due ≡ dues.Draw on = sym c.due.ensures.value ∙ c.in-Draw.is in
    λ past both.
    let now = now_at b t (dues.Draw on) c.live-live.result past both (sym is) (c.live-live.ensures.stands past both.betting) in
    c.draw.ensures.event b.setup past (dues.Draw on) now c.due.ensures.game.code
    ∙ sym (ap (λ (x : Coming). x.event) (coming_at b.setup b.rules past c.args.stock.now b.street (dues.Draw on) (both.betting.turn_is ∙ ap (λ (d : Due). (b.street, d)) is)))

pub returns-in-Draw-clause-left : goal.returns-in-Draw-clause-left
returns-in-Draw-clause-left g c =
    let b = c.args.hand.now.betting in
    let t = c.args.hand.now.cards in
    let on = c.in-Draw.on in
    let is : b.due ≡ dues.Draw on = sym c.due.ensures.value ∙ c.in-Draw.is in
    λ past both.
    let now = now_at b t (dues.Draw on) c.live-live.result past both (sym is) (c.live-live.ensures.stands past both.betting) in
    c.draw.ensures.left b.setup past (dues.Draw on) now
    ∙ sym (ap (λ (x : Coming). x.left) (coming_at b.setup b.rules past c.args.stock.now b.street (dues.Draw on) (both.betting.turn_is ∙ ap (λ (d : Due). (b.street, d)) is)))

pub returns-in-BringIn-clause-event : goal.returns-in-BringIn-clause-event
returns-in-BringIn-clause-event g c =
    let b = c.args.hand.now.betting in
    let is : b.due ≡ dues.BringIn = sym c.due.ensures.value ∙ c.in-BringIn.is in
    λ past both.
    c.bring_in.ensures.event past both c.args.stock.now
    ∙ sym (ap (λ (x : Coming). x.event) (coming_at b.setup b.rules past c.args.stock.now b.street dues.BringIn (both.betting.turn_is ∙ ap (λ (d : Due). (b.street, d)) is)))

pub returns-in-BringIn-clause-left : goal.returns-in-BringIn-clause-left
returns-in-BringIn-clause-left g c =
    let b = c.args.hand.now.betting in
    let is : b.due ≡ dues.BringIn = sym c.due.ensures.value ∙ c.in-BringIn.is in
    λ past both.
    c.bring_in.ensures.left past both c.args.stock.now
    ∙ sym (ap (λ (x : Coming). x.left) (coming_at b.setup b.rules past c.args.stock.now b.street dues.BringIn (both.betting.turn_is ∙ ap (λ (d : Due). (b.street, d)) is)))

pub returns-in-Move-clause-event : goal.returns-in-Move-clause-event
returns-in-Move-clause-event g c =
    let b = c.args.hand.now.betting in
    let is : b.due ≡ dues.Move = sym c.due.ensures.value ∙ c.in-Move.is in
    λ past both.
    c.acted.ensures.event past both
    ∙ sym (ap (λ (x : Coming). x.event) (coming_at b.setup b.rules past c.args.stock.now b.street dues.Move (both.betting.turn_is ∙ ap (λ (d : Due). (b.street, d)) is)))

pub returns-in-Move-clause-left : goal.returns-in-Move-clause-left
returns-in-Move-clause-left g c =
    let b = c.args.hand.now.betting in
    let is : b.due ≡ dues.Move = sym c.due.ensures.value ∙ c.in-Move.is in
    λ past both.
    c.acted.ensures.left past both
    ∙ sym (ap (λ (x : Coming). x.left) (coming_at b.setup b.rules past c.args.stock.now b.street dues.Move (both.betting.turn_is ∙ ap (λ (d : Due). (b.street, d)) is)))

pub returns-in-Show-clause-event : goal.returns-in-Show-clause-event
returns-in-Show-clause-event g c =
    let b = c.args.hand.now.betting in
    let is : b.due ≡ dues.Show = sym c.due.ensures.value ∙ c.in-Show.is in
    λ past both. sym (ap (λ (x : Coming). x.event) (coming_at b.setup b.rules past c.args.stock.now b.street dues.Show (both.betting.turn_is ∙ ap (λ (d : Due). (b.street, d)) is)))

pub returns-in-Show-clause-left : goal.returns-in-Show-clause-left
returns-in-Show-clause-left g c =
    let b = c.args.hand.now.betting in
    let is : b.due ≡ dues.Show = sym c.due.ensures.value ∙ c.in-Show.is in
    λ past both. sym (ap (λ (x : Coming). x.left) (coming_at b.setup b.rules past c.args.stock.now b.street dues.Show (both.betting.turn_is ∙ ap (λ (d : Due). (b.street, d)) is)))

pub returns-in-Over-clause-event : goal.returns-in-Over-clause-event
returns-in-Over-clause-event g c =
    let b = c.args.hand.now.betting in
    let is : b.due ≡ dues.Over = sym c.due.ensures.value ∙ c.in-Over.is in
    λ past both. sym (ap (λ (x : Coming). x.event) (coming_at b.setup b.rules past c.args.stock.now b.street dues.Over (both.betting.turn_is ∙ ap (λ (d : Due). (b.street, d)) is)))

pub returns-in-Over-clause-left : goal.returns-in-Over-clause-left
returns-in-Over-clause-left g c =
    let b = c.args.hand.now.betting in
    let is : b.due ≡ dues.Over = sym c.due.ensures.value ∙ c.in-Over.is in
    λ past both. sym (ap (λ (x : Coming). x.left) (coming_at b.setup b.rules past c.args.stock.now b.street dues.Over (both.betting.turn_is ∙ ap (λ (d : Due). (b.street, d)) is)))
