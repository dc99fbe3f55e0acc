use Rattle.std.proofs.Common.{◌≡◌, arith, get_or}
use Rattle.card_set.specs.Filler.{filler_card}
use Rattle.hand_order.specs.Height.{height_with}
use Rattle.betting_numbers.proofs.Counts.{height_below, one_more, times_of_none}
use Rattle.betting_numbers.proofs.counting.+count_heights.Goals as goal

pub returns-in-empty : goal.returns-in-empty
returns-in-empty t c = λ h. let none = times_of_none (height_with c.args.ace) c.args.cards.now h c.in-empty.len_below in omega (arith, none)

pub returns-in-len1-up : goal.returns-in-len1-up
returns-in-len1-up t c = λ h.
    let rank = (get_or c.args.cards.now 0 filler_card).rank in
    let at : c.height_of.result ≡ height_with c.args.ace rank = c.height_of.ensures in
    let below = height_below c.args.ace rank in
    one_more (height_with c.args.ace) c.args.cards.now c.args.counts.now c.height_of.result h filler_card c.in-len1-up.len_at_least (omega arith) at _ (c.count_heights.ensures h)
