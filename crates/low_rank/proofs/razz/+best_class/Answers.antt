use Rattle.std.proofs.Common.{◌≡◌, ℕ, length, inl, inr, arith, ap, subst}
use Rattle.std.proofs.lemmas.Bool.{cases_lt}
use Rattle.low_rank.specs.RazzBest.{HasClass, low_count}
use Rattle.low_rank.proofs.FreeRanks.{shape_ranks}
use Rattle.low_rank.proofs.razz.+best_class.Goals as goal
use Rattle.low_rank.proofs.razz.+best_class.Goals.{then-class-eq5-via-then-class-eq5, then-class-eq5-via-else-class-eq5+then-as_slice-from}

pub returns-then-class-eq5-clause-ranks : goal.returns-then-class-eq5-clause-ranks
returns-then-class-eq5-clause-ranks t c =
    shape_ranks (low_count c.args.masks.now) c.args.class _ _ _ _ _ c.lowest_of_shape-ranks.ensures c.shape_of-shape.ensures.often c.shape_of-shape.ensures.often_ranks c.shape_of-shape.ensures.seldom c.shape_of-shape.ensures.seldom_ranks

pub returns-then-class-eq5-clause-made : goal.returns-then-class-eq5-clause-made
returns-then-class-eq5-clause-made t c =
    let list = shape_ranks (low_count c.args.masks.now) c.args.class _ _ _ _ _ c.lowest_of_shape-ranks.ensures c.shape_of-shape.ensures.often c.shape_of-shape.ensures.often_ranks c.shape_of-shape.ensures.seldom c.shape_of-shape.ensures.seldom_ranks in
    let long = ap (length {A = ℕ}) list in
    elim c.then-class-eq5.branch [
      | then-class-eq5-via-then-class-eq5 w ↦ inl w.if-class-eq5.true
      | then-class-eq5-via-else-class-eq5+then-as_slice-from w ↦
          inr (omega (arith, long, ap (length {A = ℕ}) w.as_slice.ensures, w.from.ensures, w.if-as_slice-from.true, c.shape_of-shape.ensures.often_ranks, c.shape_of-shape.ensures.seldom_ranks))
    ]

pub returns-clause-none : goal.returns-clause-none
returns-clause-none t c = λ better from less has.
    elim (cases_lt c.args.class better) [
      | inl above ↦ c.best_class.ensures.none better (omega arith) less has
      | inr least ↦
          let same : better ≡ c.args.class = omega arith in
          let made = subst (HasClass (low_count c.args.masks.now)) same has in
          let list = shape_ranks (low_count c.args.masks.now) c.args.class _ _ _ _ _ c.lowest_of_shape-ranks.ensures c.shape_of-shape.ensures.often c.shape_of-shape.ensures.often_ranks c.shape_of-shape.ensures.seldom c.shape_of-shape.ensures.seldom_ranks in
          let long = ap (length {A = ℕ}) list in
          absurd (omega (arith, made, long, ap (length {A = ℕ}) c.as_slice.ensures, c.from.ensures, c.if-as_slice-from.false, c.shape_of-shape.ensures.often_ranks, c.shape_of-shape.ensures.seldom_ranks))
    ]
