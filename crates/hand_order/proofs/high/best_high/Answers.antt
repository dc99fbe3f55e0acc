use Rattle.std.proofs.Common.{ℕ, ◌<◌, ◌^◌, filter, arith}
use Rattle.card_set.specs.declared.card.Suit.TheVariants as suits
use Rattle.card_set.specs.CardSet.{listed}
use Rattle.card_set.specs.Ranks.{high_ace, times}
use Rattle.card_set.proofs.Listing.{count_of-listing, listed_listing}
use Rattle.hand_order.proofs.BestHigh.{high_best, leveled_few, pattern_below}
use Rattle.hand_order.proofs.FittingChoices.{times_of_ranks}
use Rattle.hand_order.proofs.SetCounts.{are_counts, level_shows, mask_counts, suit_shows}
use Rattle.hand_order.proofs.SuitedHands.{of_suit}
use Rattle.hand_order.proofs.high.best_high.Goals as goal

pub above_number-plain-requires-clause-class : goal.above_number-plain-requires-clause-class
above_number-plain-requires-clause-class c =
    let lists = listed_listing c.args.cards.now in
    let set = c.args.cards.now in
    let clubs = mask_counts set c.rank_mask-clubs.result suits.C (listed c.args.cards.now) lists c.rank_mask-clubs.ensures.within c.rank_mask-clubs.ensures.ranks in
    let diamonds = mask_counts set c.rank_mask-diamonds.result suits.D (listed c.args.cards.now) lists c.rank_mask-diamonds.ensures.within c.rank_mask-diamonds.ensures.ranks in
    let hearts = mask_counts set c.rank_mask-hearts.result suits.H (listed c.args.cards.now) lists c.rank_mask-hearts.ensures.within c.rank_mask-hearts.ensures.ranks in
    let spades = mask_counts set c.rank_mask-spades.result suits.S (listed c.args.cards.now) lists c.rank_mask-spades.ensures.within c.rank_mask-spades.ensures.ranks in
    let levels = c.levels_of-levels.result in
    let says = c.levels_of-levels.ensures in
    let shows = λ (level n : ℕ) (some : 0 < n) (small : level < 2 ^ 16). level_shows (listed c.args.cards.now) c.rank_mask-clubs.result c.rank_mask-diamonds.result c.rank_mask-hearts.result c.rank_mask-spades.result level n some small clubs diamonds hearts spades in
    let all = shows levels.all 1 (omega arith) says.small.0 says.all in
    let best = c.best_pattern-pattern.ensures (times high_ace (listed c.args.cards.now)) (are_counts (listed c.args.cards.now) lists.different (omega (arith, count_of-listing set (listed c.args.cards.now) lists, c.requires))) all (shows levels.two 2 (omega arith) says.small.1 says.two) (shows levels.three 3 (omega arith) says.small.2 says.three) (shows levels.four 4 (omega arith) says.small.3 says.four) in
    let level = leveled_few c.args.flush c.best_pattern-pattern.result.class best.best.kind in
    omega (arith, c.adjust_class.ensures)

pub above_number-plain-requires-clause-below : goal.above_number-plain-requires-clause-below
above_number-plain-requires-clause-below c =
    let lists = listed_listing c.args.cards.now in
    let set = c.args.cards.now in
    let clubs = mask_counts set c.rank_mask-clubs.result suits.C (listed c.args.cards.now) lists c.rank_mask-clubs.ensures.within c.rank_mask-clubs.ensures.ranks in
    let diamonds = mask_counts set c.rank_mask-diamonds.result suits.D (listed c.args.cards.now) lists c.rank_mask-diamonds.ensures.within c.rank_mask-diamonds.ensures.ranks in
    let hearts = mask_counts set c.rank_mask-hearts.result suits.H (listed c.args.cards.now) lists c.rank_mask-hearts.ensures.within c.rank_mask-hearts.ensures.ranks in
    let spades = mask_counts set c.rank_mask-spades.result suits.S (listed c.args.cards.now) lists c.rank_mask-spades.ensures.within c.rank_mask-spades.ensures.ranks in
    let levels = c.levels_of-levels.result in
    let says = c.levels_of-levels.ensures in
    let shows = λ (level n : ℕ) (some : 0 < n) (small : level < 2 ^ 16). level_shows (listed c.args.cards.now) c.rank_mask-clubs.result c.rank_mask-diamonds.result c.rank_mask-hearts.result c.rank_mask-spades.result level n some small clubs diamonds hearts spades in
    let all = shows levels.all 1 (omega arith) says.small.0 says.all in
    let best = c.best_pattern-pattern.ensures (times high_ace (listed c.args.cards.now)) (are_counts (listed c.args.cards.now) lists.different (omega (arith, count_of-listing set (listed c.args.cards.now) lists, c.requires))) all (shows levels.two 2 (omega arith) says.small.1 says.two) (shows levels.three 3 (omega arith) says.small.2 says.three) (shows levels.four 4 (omega arith) says.small.3 says.four) in
    pattern_below (times high_ace (listed c.args.cards.now)) c.best_pattern-pattern.result.class c.best_pattern-pattern.result.number best

pub returns : goal.returns
returns c = λ listing lists.
    let set = c.args.cards.now in
    let clubs = mask_counts set c.rank_mask-clubs.result suits.C listing lists c.rank_mask-clubs.ensures.within c.rank_mask-clubs.ensures.ranks in
    let diamonds = mask_counts set c.rank_mask-diamonds.result suits.D listing lists c.rank_mask-diamonds.ensures.within c.rank_mask-diamonds.ensures.ranks in
    let hearts = mask_counts set c.rank_mask-hearts.result suits.H listing lists c.rank_mask-hearts.ensures.within c.rank_mask-hearts.ensures.ranks in
    let spades = mask_counts set c.rank_mask-spades.result suits.S listing lists c.rank_mask-spades.ensures.within c.rank_mask-spades.ensures.ranks in
    let levels = c.levels_of-levels.result in
    let says = c.levels_of-levels.ensures in
    let shows = λ (level n : ℕ) (some : 0 < n) (small : level < 2 ^ 16). level_shows listing c.rank_mask-clubs.result c.rank_mask-diamonds.result c.rank_mask-hearts.result c.rank_mask-spades.result level n some small clubs diamonds hearts spades in
    let all = shows levels.all 1 (omega arith) says.small.0 says.all in
    let best = c.best_pattern-pattern.ensures (times high_ace listing) (are_counts listing lists.different (omega (arith, count_of-listing set listing lists, c.requires))) all (shows levels.two 2 (omega arith) says.small.1 says.two) (shows levels.three 3 (omega arith) says.small.2 says.three) (shows levels.four 4 (omega arith) says.small.3 says.four) in
    let ranks = λ (s : ℕ). times_of_ranks high_ace (filter (of_suit s) listing) in
    let suited = λ (mask s : ℕ) (small : mask < 2 ^ 13). suit_shows listing mask s (omega arith) in
    high_best c.args.flush c.args.low listing c.best_pattern-pattern.result.class best.hs c.top_straight.result c.suit_points.result c.suit_points-2.result c.suit_points-3.result c.suit_points-4.result c.max-5.result lists.different
    (record {
      plain = best.best;
      above = λ other. c.top_straight.ensures.most (times high_ace listing) other all;
      found = c.top_straight.ensures.found (times high_ace listing) all;
      of_clubs = c.suit_points.ensures (times high_ace (filter (of_suit 0) listing)) (ranks 0) (suited c.rank_mask-clubs.result 0 c.rank_mask-clubs.ensures.within clubs);
      of_diamonds = c.suit_points-2.ensures (times high_ace (filter (of_suit 1) listing)) (ranks 1) (suited c.rank_mask-diamonds.result 1 c.rank_mask-diamonds.ensures.within diamonds);
      of_hearts = c.suit_points-3.ensures (times high_ace (filter (of_suit 2) listing)) (ranks 2) (suited c.rank_mask-hearts.result 2 c.rank_mask-hearts.ensures.within hearts);
      of_spades = c.suit_points-4.ensures (times high_ace (filter (of_suit 3) listing)) (ranks 3) (suited c.rank_mask-spades.result 3 c.rank_mask-spades.ensures.within spades);
    })
    (omega (arith, c.above_number-plain.ensures, c.adjust_class.ensures, best.written, c.straight_points-straight.ensures, c.max.ensures, c.max-2.ensures, c.max-3.ensures, c.max-4.ensures, c.max-5.ensures))
