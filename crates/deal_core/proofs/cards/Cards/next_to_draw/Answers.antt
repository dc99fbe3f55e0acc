-- The seat that draws next by the state draws next after the past.
use Rattle.std.proofs.Common.{sym, ◌∙◌}
use Rattle.deal_core.proofs.WhyDiscard.{next_is}
use Rattle.deal_core.proofs.cards.Cards.next_to_draw.Goals as goal

pub returns-clause-next : goal.returns-clause-next
returns-clause-next g c =
    rw (← c.self.view_is) λ setup past due now.
    c.next_to_draw.ensures.found
    ∙ sym (next_is c.self.inside.state due c.args.live.now setup past now c.args.on)
