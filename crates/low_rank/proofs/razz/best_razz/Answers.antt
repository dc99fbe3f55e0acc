use Rattle.std.proofs.Common.{ℕ, ◌-◌, ◌^◌, List, Some, arith, ap, ◌∙◌}
use Rattle.card_set.proofs.Listing.{count_of-listing}
use Rattle.hand_order.specs.Digits.{class_above}
use Rattle.low_rank.specs.RazzBest.{low_count}
use Rattle.low_rank.specs.declared.razz.SuitMasks.{SuitMasks}
use Rattle.low_rank.proofs.RazzChoices.{razz_best, seen_number}
use Rattle.low_rank.proofs.RazzMasks.{masks_count}
use Rattle.low_rank.proofs.razz.best_razz.Goals as goal

pub make_points-requires-clause-below : goal.make_points-requires-clause-below
make_points-requires-clause-below c = seen_number _ c.best_class-best.result.class _ c.as_slice.result.now c.best_class-best.ensures.within c.as_slice.ensures c.best_class-best.ensures.ranks

pub overflow_sub-result : goal.overflow_sub-result
overflow_sub-result c =
    omega (arith, c.make_points.ensures, c.best_class-best.ensures.within, seen_number _ c.best_class-best.result.class _ c.as_slice.result.now c.best_class-best.ensures.within c.as_slice.ensures c.best_class-best.ensures.ranks)

pub returns : goal.returns
returns c = λ listing lists.
    let masks : SuitMasks = record { clubs = c.rank_mask.result; diamonds = c.rank_mask-2.result; hearts = c.rank_mask-3.result; spades = c.rank_mask-4.result } in
    let counts = masks_count c.args.cards.now masks listing lists (record { within = c.rank_mask.ensures.within; each = c.rank_mask.ensures.ranks }) (record { within = c.rank_mask-2.ensures.within; each = c.rank_mask-2.ensures.ranks }) (record { within = c.rank_mask-3.ensures.within; each = c.rank_mask-3.ensures.ranks }) (record { within = c.rank_mask-4.ensures.within; each = c.rank_mask-4.ensures.ranks }) in
    ap (λ (n : ℕ). Some (16 ^ 6 - n)) (c.make_points.ensures ∙ ap (λ (l : List ℕ). class_above c.best_class-best.result.class l) (c.as_slice.ensures ∙ c.best_class-best.ensures.ranks))
    ∙ razz_best (low_count masks) listing c.best_class-best.result.class lists.different (omega (arith, c.requires, count_of-listing c.args.cards.now listing lists)) counts c.best_class-best.ensures.within c.best_class-best.ensures.none c.best_class-best.ensures.made
