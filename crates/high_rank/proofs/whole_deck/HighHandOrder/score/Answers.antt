use Rattle.std.proofs.Common.{ℕ, Some, ap, ◌∙◌}
use Rattle.card_set.specs.Row.{cards_of}
use Rattle.high_rank.proofs.Ladders.{high_ladder}
use Rattle.high_rank.proofs.whole_deck.HighHandOrder.score.Goals as goal

pub returns : goal.returns
returns c = ap (λ (n : ℕ). Some n) c.hand_points.ensures ∙ high_ladder (cards_of c.args.cards.now)
