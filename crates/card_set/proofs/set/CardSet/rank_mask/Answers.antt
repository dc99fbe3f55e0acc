use Rattle.std.proofs.Common.{ℕ, ◌*◌, ◌+◌, ◌==◌, ap, ◌∙◌}
use Rattle.std.specs.Int.{bit_at}
use Rattle.card_set.specs.CardSet.{is_in}
use Rattle.card_set.specs.Deck.{ranks_below}
use Rattle.card_set.proofs.BitLaws.{ranks_below-few, suit_bits}
use Rattle.card_set.proofs.set.CardSet.rank_mask.Goals as goal

pub returns-clause-ranks : goal.returns-clause-ranks
unfolding is_in
returns-clause-ranks c = λ rank.
    ap (λ (n : ℕ). n == 1)
    (suit_bits c.args.self.now.bits c.suit_index.result (ranks_below rank) (ranks_below-few rank)
    ∙ ap (λ (s : ℕ). bit_at c.args.self.now.bits (13 * s + ranks_below rank)) c.suit_index.ensures.index)
