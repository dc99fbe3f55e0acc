use Rattle.card_set.specs.CardSet.{is_in}
use Rattle.card_set.proofs.BitLaws.{set_within, set_here, set_there}
use Rattle.card_set.proofs.set.CardSet.insert.Goals as goal

pub invariant_of-self : goal.invariant_of-self
invariant_of-self c = record { within = set_within c.args.self.now.bits c.bit_of.result c.args.self.now.within c.bit_of.ensures.within }

pub returns-clause-inside : goal.returns-clause-inside
unfolding is_in
returns-clause-inside c = set_here c.args.self.now.bits c.bit_of.result c.args.card c.bit_of.ensures.within c.bit_of.ensures.index

pub returns-clause-others : goal.returns-clause-others
unfolding is_in
returns-clause-others c = λ other apart. set_there c.args.self.now.bits c.bit_of.result c.args.card other c.bit_of.ensures.within c.bit_of.ensures.index apart
