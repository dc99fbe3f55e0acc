use Rattle.std.proofs.Common.{ℕ, length, arith, ap}
use Rattle.card_set.specs.Row.{cards_of}
use Rattle.card_set.specs.Ranks.{occurring}
use Rattle.hand_order.specs.Height.{height_with}
use Rattle.hand_order.specs.Heights.{heights_of}
use Rattle.hand_order.proofs.RankDigits.{all_grown, few_ranks}
use Rattle.hand_order.proofs.ranks.ranks_of.Goals as goal
use Rattle.card_set.proofs.Lists.{length_grown}

pub push_occurring-requires : goal.push_occurring-requires
push_occurring-requires c =
    omega (arith, few_ranks c.args.ace (cards_of c.args.cards.now), ap (length {A = ℕ}) c.new-row.ensures)

pub push_occurring-requires-2 : goal.push_occurring-requires-2
push_occurring-requires-2 c =
    omega (arith, few_ranks c.args.ace (cards_of c.args.cards.now), ap (length {A = ℕ}) c.new-row.ensures, length_grown (heights_of c.new-row.result) (occurring (height_with c.args.ace) (cards_of c.args.cards.now) 4) (heights_of c.push_occurring.new.row) c.push_occurring.ensures)

pub push_occurring-requires-3 : goal.push_occurring-requires-3
push_occurring-requires-3 c =
    omega (arith, few_ranks c.args.ace (cards_of c.args.cards.now), ap (length {A = ℕ}) c.new-row.ensures, length_grown (heights_of c.new-row.result) (occurring (height_with c.args.ace) (cards_of c.args.cards.now) 4) (heights_of c.push_occurring.new.row) c.push_occurring.ensures, length_grown (heights_of c.push_occurring.new.row) (occurring (height_with c.args.ace) (cards_of c.args.cards.now) 3) (heights_of c.push_occurring-2.new.row) c.push_occurring-2.ensures)

pub push_occurring-requires-4 : goal.push_occurring-requires-4
push_occurring-requires-4 c =
    omega (arith, few_ranks c.args.ace (cards_of c.args.cards.now), ap (length {A = ℕ}) c.new-row.ensures, length_grown (heights_of c.new-row.result) (occurring (height_with c.args.ace) (cards_of c.args.cards.now) 4) (heights_of c.push_occurring.new.row) c.push_occurring.ensures, length_grown (heights_of c.push_occurring.new.row) (occurring (height_with c.args.ace) (cards_of c.args.cards.now) 3) (heights_of c.push_occurring-2.new.row) c.push_occurring-2.ensures, length_grown (heights_of c.push_occurring-2.new.row) (occurring (height_with c.args.ace) (cards_of c.args.cards.now) 2) (heights_of c.push_occurring-3.new.row) c.push_occurring-3.ensures)

pub returns : goal.returns
returns c =
    all_grown (height_with c.args.ace) (cards_of c.args.cards.now) (heights_of c.new-row.result) (heights_of c.push_occurring.new.row) (heights_of c.push_occurring-2.new.row) (heights_of c.push_occurring-3.new.row) (heights_of c.push_occurring-4.new.row) c.new-row.ensures c.push_occurring.ensures c.push_occurring-2.ensures c.push_occurring-3.ensures c.push_occurring-4.ensures
