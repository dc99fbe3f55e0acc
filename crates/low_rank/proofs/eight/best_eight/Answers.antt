use Rattle.std.proofs.Common.{ℕ, ◌-◌, ◌^◌, List, Some, arith, ap, ◌∙◌, bit_or}
use Rattle.card_set.specs.declared.card.Suit.TheVariants as suits
use Rattle.hand_order.specs.Digits.{class_above}
use Rattle.hand_order.specs.Lowest.{has_height}
use Rattle.hand_order.proofs.SetCounts.{level_shows, mask_counts}
use Rattle.low_rank.proofs.EightBest.{eight_best, eight_none, low_number}
use Rattle.low_rank.proofs.EightMask.{mask_tells}
use Rattle.low_rank.proofs.EightRanks.{low_ranks_few, low_ranks_five}
use Rattle.low_rank.proofs.eight.best_eight.Goals as goal
use Rattle.card_set.proofs.Bits.{all_level, or_four}

pub make_points-requires-clause-below : goal.make_points-requires-clause-below
make_points-requires-clause-below c = low_number (has_height (bit_or (bit_or (bit_or c.rank_mask-clubs.result c.rank_mask-diamonds.result) c.rank_mask-hearts.result) c.rank_mask-spades.result)) c.as_slice.result.now (c.as_slice.ensures ∙ c.lowest_ranks-ranks.ensures.list)

pub overflow_sub-result : goal.overflow_sub-result
overflow_sub-result c =
    omega (arith, c.make_points.ensures, low_number (has_height (bit_or (bit_or (bit_or c.rank_mask-clubs.result c.rank_mask-diamonds.result) c.rank_mask-hearts.result) c.rank_mask-spades.result)) c.as_slice.result.now (c.as_slice.ensures ∙ c.lowest_ranks-ranks.ensures.list))

pub returns-then-all-lt5 : goal.returns-then-all-lt5
returns-then-all-lt5 c = λ listing lists.
    let set = c.args.cards.now in
    let clubs = mask_counts set c.rank_mask-clubs.result suits.C listing lists c.rank_mask-clubs.ensures.within c.rank_mask-clubs.ensures.ranks in
    let diamonds = mask_counts set c.rank_mask-diamonds.result suits.D listing lists c.rank_mask-diamonds.ensures.within c.rank_mask-diamonds.ensures.ranks in
    let hearts = mask_counts set c.rank_mask-hearts.result suits.H listing lists c.rank_mask-hearts.ensures.within c.rank_mask-hearts.ensures.ranks in
    let spades = mask_counts set c.rank_mask-spades.result suits.S listing lists c.rank_mask-spades.ensures.within c.rank_mask-spades.ensures.ranks in
    let shows = level_shows listing c.rank_mask-clubs.result c.rank_mask-diamonds.result c.rank_mask-hearts.result c.rank_mask-spades.result _ 1 (omega arith) (or_four c.rank_mask-clubs.result c.rank_mask-diamonds.result c.rank_mask-hearts.result c.rank_mask-spades.result c.rank_mask-clubs.ensures.within c.rank_mask-diamonds.ensures.within c.rank_mask-hearts.ensures.within c.rank_mask-spades.ensures.within) clubs diamonds hearts spades (all_level c.rank_mask-clubs.result c.rank_mask-diamonds.result c.rank_mask-hearts.result c.rank_mask-spades.result) in
    eight_none (has_height (bit_or (bit_or (bit_or c.rank_mask-clubs.result c.rank_mask-diamonds.result) c.rank_mask-hearts.result) c.rank_mask-spades.result)) listing lists.different (mask_tells listing _ shows)
    (omega (arith, low_ranks_few _ (or_four c.rank_mask-clubs.result c.rank_mask-diamonds.result c.rank_mask-hearts.result c.rank_mask-spades.result c.rank_mask-clubs.ensures.within c.rank_mask-diamonds.ensures.within c.rank_mask-hearts.ensures.within c.rank_mask-spades.ensures.within), c.if-all-lt5.true))

pub returns : goal.returns
returns c = λ listing lists.
    let set = c.args.cards.now in
    let clubs = mask_counts set c.rank_mask-clubs.result suits.C listing lists c.rank_mask-clubs.ensures.within c.rank_mask-clubs.ensures.ranks in
    let diamonds = mask_counts set c.rank_mask-diamonds.result suits.D listing lists c.rank_mask-diamonds.ensures.within c.rank_mask-diamonds.ensures.ranks in
    let hearts = mask_counts set c.rank_mask-hearts.result suits.H listing lists c.rank_mask-hearts.ensures.within c.rank_mask-hearts.ensures.ranks in
    let spades = mask_counts set c.rank_mask-spades.result suits.S listing lists c.rank_mask-spades.ensures.within c.rank_mask-spades.ensures.ranks in
    let shows = level_shows listing c.rank_mask-clubs.result c.rank_mask-diamonds.result c.rank_mask-hearts.result c.rank_mask-spades.result _ 1 (omega arith) (or_four c.rank_mask-clubs.result c.rank_mask-diamonds.result c.rank_mask-hearts.result c.rank_mask-spades.result c.rank_mask-clubs.ensures.within c.rank_mask-diamonds.ensures.within c.rank_mask-hearts.ensures.within c.rank_mask-spades.ensures.within) clubs diamonds hearts spades (all_level c.rank_mask-clubs.result c.rank_mask-diamonds.result c.rank_mask-hearts.result c.rank_mask-spades.result) in
    let has = has_height (bit_or (bit_or (bit_or c.rank_mask-clubs.result c.rank_mask-diamonds.result) c.rank_mask-hearts.result) c.rank_mask-spades.result) in
    let list = c.as_slice.ensures ∙ c.lowest_ranks-ranks.ensures.list in
    let five = low_ranks_five _ (or_four c.rank_mask-clubs.result c.rank_mask-diamonds.result c.rank_mask-hearts.result c.rank_mask-spades.result c.rank_mask-clubs.ensures.within c.rank_mask-diamonds.ensures.within c.rank_mask-hearts.ensures.within c.rank_mask-spades.ensures.within) (omega (arith, c.if-all-lt5.false)) in
    ap (λ (n : ℕ). Some (16 ^ 6 - n)) (c.make_points.ensures ∙ ap (λ (l : List ℕ). class_above 0 l) list)
    ∙ eight_best has listing lists.different (mask_tells listing _ shows) five
