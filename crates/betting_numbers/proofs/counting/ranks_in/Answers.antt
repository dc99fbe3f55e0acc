use Rattle.std.proofs.Common.{ℕ, ◌++◌, List, length, ap, ◌∙◌}
use Rattle.card_set.specs.Row.{cards_of}
use Rattle.hand_order.specs.Height.{height_with}
use Rattle.hand_order.proofs.RankDigits.{all_grown}
use Rattle.betting_numbers.specs.HeightRow.{heights_in}
use Rattle.betting_numbers.proofs.Counts.{counted_occurring}
use Rattle.betting_numbers.proofs.counting.ranks_in.Goals as goal

pub returns-clause-fours : goal.returns-clause-fours
returns-clause-fours c =
    c.push_counted-fours.ensures.count
    ∙ ap (length {A = ℕ}) (counted_occurring (height_with c.args.ace) (cards_of c.args.cards.now) c.as_slice.result.now c.count_heights.new.counts c.as_slice.ensures c.count_heights.ensures 4)

pub returns-clause-threes : goal.returns-clause-threes
returns-clause-threes c =
    c.push_counted-threes.ensures.count
    ∙ ap (length {A = ℕ}) (counted_occurring (height_with c.args.ace) (cards_of c.args.cards.now) c.as_slice.result.now c.count_heights.new.counts c.as_slice.ensures c.count_heights.ensures 3)

pub returns-clause-pairs : goal.returns-clause-pairs
returns-clause-pairs c =
    c.push_counted-pairs.ensures.count
    ∙ ap (length {A = ℕ}) (counted_occurring (height_with c.args.ace) (cards_of c.args.cards.now) c.as_slice.result.now c.count_heights.new.counts c.as_slice.ensures c.count_heights.ensures 2)

pub returns-clause-heights : goal.returns-clause-heights
returns-clause-heights c =
    let none = heights_in c.new-heights.result in
    let four = heights_in c.push_counted-fours.new.row in
    let three = heights_in c.push_counted-threes.new.row in
    let two = heights_in c.push_counted-pairs.new.row in
    let one = heights_in c.push_counted.new.row in
    let found = counted_occurring (height_with c.args.ace) (cards_of c.args.cards.now) c.as_slice.result.now c.count_heights.new.counts c.as_slice.ensures c.count_heights.ensures in
    let after = λ (row : List ℕ) (n : ℕ). ap (λ (l : List ℕ). row ++ l) (found n) in
    all_grown (height_with c.args.ace) (cards_of c.args.cards.now) none four three two one c.new-heights.ensures.empty
    (c.push_counted-fours.ensures.entries ∙ after none 4) (c.push_counted-threes.ensures.entries ∙ after four 3) (c.push_counted-pairs.ensures.entries ∙ after three 2) (c.push_counted.ensures.entries ∙ after two 1)
