-- What the street deals next by the state is what it deals next after the past.
use Rattle.deal_core.proofs.Owing.{next_deal_is}
use Rattle.deal_core.proofs.cards.Cards.next_deal.Goals as goal

pub returns-clause-next : goal.returns-clause-next
returns-clause-next g c =
    rw (← c.self.view_is) λ setup past due now.
    next_deal_is c.self.inside.state due c.args.live.now setup past now c.args.on c.next_deal.result c.next_deal.ensures.owner c.next_deal.ensures.count
