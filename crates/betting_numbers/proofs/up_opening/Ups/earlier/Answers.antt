-- Of two seats that can act, the one that is as early as the other leads.
use Rattle.std.proofs.Common.{◌≡◌, arith, sym, ◌∙◌}
use Rattle.std.proofs.lemmas.Grind.{common_steps}
use Rattle.betting_numbers.specs.UpSeen.{is_as_early_seen}
use Rattle.betting_numbers.proofs.Leading.{other_leads, lead_stays}
use Rattle.betting_numbers.proofs.up_opening.Ups.earlier.Goals as goal

pub returns-then-early-clause-lead : goal.returns-then-early-clause-lead
returns-then-early-clause-lead c =
    let told : c.opens_as_early-early.result ≡ is_as_early_seen c.args.self.now.opener c.args.self.now.numbers.now c.args.self.now.up.now c.args.other.number c.args.lead.number = grind (arith, common_steps) in
    λ seat before. other_leads c.args.self.now.opener c.args.self.now.numbers.now c.args.self.now.up.now c.args.lead.number c.args.other.number seat (sym c.can_act-2.ensures ∙ c.if-not-can_act-2.false) (sym told ∙ c.if-early.true) before

pub returns-else-early-clause-other : goal.returns-else-early-clause-other
returns-else-early-clause-other c =
    let told : c.opens_as_early-early.result ≡ is_as_early_seen c.args.self.now.opener c.args.self.now.numbers.now c.args.self.now.up.now c.args.other.number c.args.lead.number = grind (arith, common_steps) in
    λ seat before. lead_stays c.args.self.now.opener c.args.self.now.numbers.now c.args.self.now.up.now c.args.lead.number c.args.other.number seat (sym c.can_act.ensures ∙ c.if-not-can_act.false) (sym told ∙ c.if-early.false) before
