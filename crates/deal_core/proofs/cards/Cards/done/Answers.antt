-- What is complete by the state is complete in the past.
use Rattle.std.proofs.Common.{◌∙◌, sym}
use Rattle.deal_core.proofs.IsDone.{done_is, done_ended}
use Rattle.deal_core.proofs.cards.Cards.done.Goals as goal

pub returns-clause-done : goal.returns-clause-done
returns-clause-done g c =
    rw (← c.self.view_is) λ setup past at now.
    c.done.ensures ∙ done_is c.self.inside.state at c.args.due c.args.live.now setup past now

pub returns-clause-ended : goal.returns-clause-ended
returns-clause-ended g c = λ done. done_ended c.self.inside.state c.args.live.now c.args.due (sym c.done.ensures ∙ done)
