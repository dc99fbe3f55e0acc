use Rattle.hand_order.proofs.levels.levels_of.Goals as goal
use Rattle.card_set.proofs.Bits.{all_level, four_level, three_level, two_level}

pub returns-clause-all : goal.returns-clause-all
returns-clause-all c = λ k. all_level c.args.c c.args.d c.args.h c.args.s k

pub returns-clause-two : goal.returns-clause-two
returns-clause-two c = λ k. two_level c.args.c c.args.d c.args.h c.args.s k

pub returns-clause-three : goal.returns-clause-three
returns-clause-three c = λ k. three_level c.args.c c.args.d c.args.h c.args.s k

pub returns-clause-four : goal.returns-clause-four
returns-clause-four c = λ k. four_level c.args.c c.args.d c.args.h c.args.s k
