-- Each high order has the points of its classes.
use Rattle.std.proofs.Common.{◌≡◌, ℕ, List, Some, refl, sym, ◌∙◌, ap}
use Rattle.card_set.specs.declared.card.Card.{Card}
use Rattle.hand_order.specs.declared.ladder.FlushRank.TheVariants as flushes
use Rattle.hand_order.specs.declared.straights.LowStraight.TheVariants as straights
use Rattle.hand_order.specs.Choices.{choices}
use Rattle.hand_order.specs.Ladder.{ladder_points}
use Rattle.hand_order.specs.Points.{greatest}
use Rattle.hand_order.proofs.Greatest.{greatest-agree}
use Rattle.hand_order.proofs.HighLaw.{ladder_high}
use Rattle.high_rank.specs.High as high
use Rattle.high_rank.specs.ShortDeck as short
use Rattle.high_rank.specs.ShortDeck.{short_class}

pub high_ladder : (cards : List Card) → Some (ladder_points flushes.BelowFullHouse straights.FiveHigh cards) ≡ high.points cards
high_ladder cards = ap (λ (n : ℕ). Some n) (ladder_high straights.FiveHigh cards)

pub short_ladder : (cards : List Card) → Some (ladder_points flushes.AboveFullHouse straights.NineHigh cards) ≡ short.points cards
unfolding short_class
short_ladder cards = refl

-- so has the best of the choices
pub high_best : (most : ℕ) (listing : List Card) → greatest (λ choice. Some (ladder_points flushes.BelowFullHouse straights.FiveHigh choice)) (choices 5 listing) ≡ Some most → Some most ≡ greatest high.points (choices 5 listing)
high_best most listing is = sym is ∙ greatest-agree (λ choice. Some (ladder_points flushes.BelowFullHouse straights.FiveHigh choice)) high.points (choices 5 listing) high_ladder

pub short_best : (most : ℕ) (listing : List Card) → greatest (λ choice. Some (ladder_points flushes.AboveFullHouse straights.NineHigh choice)) (choices 5 listing) ≡ Some most → Some most ≡ greatest short.points (choices 5 listing)
short_best most listing is = sym is ∙ greatest-agree (λ choice. Some (ladder_points flushes.AboveFullHouse straights.NineHigh choice)) short.points (choices 5 listing) short_ladder
