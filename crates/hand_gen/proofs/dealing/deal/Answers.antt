-- The next deal by the cards is the next deal after the past.
use Rattle.std.proofs.Common.{ap, ◌∙◌}
use Rattle.hand_gen.specs.Coming.{Coming}
use Rattle.hand_gen.proofs.ComingLaws.{deal_is}
use Rattle.hand_gen.proofs.dealing.deal.Goals as goal

pub returns-clause-event : goal.returns-clause-event
returns-clause-event g c = λ setup past due now.
    c.dealt.ensures.event
    ∙ ap (λ (x : Coming). x.event) (deal_is setup past c.args.on c.args.stock.now c.next_deal-next.result (c.next_deal-next.ensures.next setup past due now))

pub returns-clause-left : goal.returns-clause-left
returns-clause-left g c = λ setup past due now.
    c.dealt.ensures.left
    ∙ ap (λ (x : Coming). x.left) (deal_is setup past c.args.on c.args.stock.now c.next_deal-next.result (c.next_deal-next.ensures.next setup past due now))
