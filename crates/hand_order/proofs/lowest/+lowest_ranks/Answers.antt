use Rattle.std.proofs.Common.{ℕ, ◌+◌, ◌∷◌, [], ◌++◌, List, ap, arith, ◌∙◌}
use Rattle.hand_order.specs.Lowest.{has_height}
use Rattle.hand_order.proofs.LowestLaws.{lowest_absent, lowest_first}
use Rattle.hand_order.proofs.lowest.+lowest_ranks.Goals as goal

pub returns-then-absent-heights-clause-list : goal.returns-then-absent-heights-clause-list
returns-then-absent-heights-clause-list t c =
    c.new-then-absent-heights.ensures
    ∙ lowest_absent (has_height c.args.mask) c.absent_from-absent.result c.args.heights c.args.from c.args.need c.if-absent-heights.true c.absent_from-absent.ensures.absent

pub returns-clause-list : goal.returns-clause-list
returns-clause-list t c =
    c.push.ensures
    ∙ ap (λ (l : List ℕ). l ++ (c.args.from + c.absent_from-absent.result) ∷ []) c.lowest_ranks-row.ensures.list
    ∙ lowest_first (has_height c.args.mask) c.absent_from-absent.result c.args.heights c.args.from c.args.need c.if-absent-heights.false c.if-need-eq0.false c.absent_from-absent.ensures.absent (c.absent_from-absent.ensures.next (omega (arith, c.requires.last, c.if-absent-heights.false)))
