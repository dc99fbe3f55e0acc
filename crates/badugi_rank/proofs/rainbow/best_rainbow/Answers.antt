use Rattle.std.proofs.Common.{arith}
use Rattle.card_set.proofs.Listing.{count_of-listing}
use Rattle.badugi_rank.proofs.BestRainbow.{best_points}
use Rattle.badugi_rank.proofs.rainbow.best_rainbow.Goals as goal

pub returns : goal.returns
returns c = λ listing lists.
    best_points c.args.cards.now listing c.rank_mask-clubs.result c.rank_mask.result c.rank_mask-2.result c.rank_mask-3.result c.best_taken.result lists (omega (arith, count_of-listing c.args.cards.now listing lists, c.requires))
    (record {
      clubs = record { within = c.rank_mask-clubs.ensures.within; each = c.rank_mask-clubs.ensures.ranks };
      diamonds = record { within = c.rank_mask.ensures.within; each = c.rank_mask.ensures.ranks };
      hearts = record { within = c.rank_mask-2.ensures.within; each = c.rank_mask-2.ensures.ranks };
      spades = record { within = c.rank_mask-3.ensures.within; each = c.rank_mask-3.ensures.ranks };
    })
    c.best_taken.ensures
