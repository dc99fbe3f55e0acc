use Rattle.std.proofs.Common.{eqb-true, length, sym, ◌∙◌}
use Rattle.std.proofs.lemmas.List.{nil_from_length}
use Rattle.hand_order.specs.Heights.{heights_of}
use Rattle.low_rank.proofs.AllRanks.{all_free}
use Rattle.low_rank.proofs.razz.+lowest_free.Goals as goal

pub returns-then-is_empty-clause-list : goal.returns-then-is_empty-clause-list
returns-then-is_empty-clause-list t c =
    let none = sym c.as_slice.ensures ∙ nil_from_length c.as_slice.result.now (eqb-true (length c.as_slice.result.now) 0 (sym c.is_empty.ensures ∙ c.if-is_empty.true)) in
    c.lowest_ranks.ensures.list ∙ all_free c.args.masks.now c.args.least c.args.heights c.args.from c.args.need (heights_of c.args.others.now) c.if-least-eq1.true none
