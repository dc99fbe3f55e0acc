use Rattle.card_set.specs.CardSet.{is_in}
use Rattle.card_set.proofs.BitLaws.{clear_within, clear_here, clear_there}
use Rattle.card_set.proofs.set.CardSet.remove.Goals as goal

pub invariant_of-self : goal.invariant_of-self
invariant_of-self c = record { within = clear_within c.args.self.now.bits c.bit_of.result c.args.self.now.within }

pub returns-clause-outside : goal.returns-clause-outside
unfolding is_in
returns-clause-outside c = clear_here c.args.self.now.bits c.bit_of.result c.args.card c.bit_of.ensures.within c.bit_of.ensures.index

pub returns-clause-others : goal.returns-clause-others
unfolding is_in
returns-clause-others c = λ other apart. clear_there c.args.self.now.bits c.bit_of.result c.args.card other c.bit_of.ensures.within c.bit_of.ensures.index apart
