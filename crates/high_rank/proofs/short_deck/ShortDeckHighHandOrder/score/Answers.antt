use Rattle.std.proofs.Common.{ℕ, Some, ap, ◌∙◌}
use Rattle.card_set.specs.Row.{cards_of}
use Rattle.high_rank.proofs.Ladders.{short_ladder}
use Rattle.high_rank.proofs.short_deck.ShortDeckHighHandOrder.score.Goals as goal

pub returns : goal.returns
returns c = ap (λ (n : ℕ). Some n) c.hand_points.ensures ∙ short_ladder (cards_of c.args.cards.now)
