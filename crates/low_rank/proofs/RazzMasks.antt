-- The masks of the four suits show how often each low rank occurs.
use Rattle.std.proofs.Common.{◌≡◌, ◌+◌, ◌-◌, ℕ, Bool, cond, List, inl, inr, sym, ◌∙◌, ap, arith, eq-eqb}
use Rattle.std.specs.Int.{bit_at}
use Rattle.std.proofs.lemmas.Bool.{cases_lt, ne_eqb}
use Rattle.card_set.specs.declared.card.Card.{Card}
use Rattle.card_set.specs.declared.card.Suit.TheVariants as suits
use Rattle.card_set.specs.declared.set.CardSet.{CardSet}
use Rattle.card_set.specs.CardSet.{IsListing}
use Rattle.card_set.specs.Ranks.{high_ace, low_ace, times}
use Rattle.hand_order.proofs.LowHeights.{aces, low_times}
use Rattle.hand_order.proofs.RankMasks.{IsMaskOf}
use Rattle.hand_order.proofs.SetCounts.{four_suits, mask_counts}
use Rattle.low_rank.specs.RazzBest.{low_count}
use Rattle.low_rank.specs.declared.razz.SuitMasks.{SuitMasks}
use Rattle.low_rank.proofs.RazzChoices.{Counts}

pub masks_count : (set : CardSet) (masks : SuitMasks) (cards : List Card) → IsListing set cards → IsMaskOf set masks.clubs suits.C → IsMaskOf set masks.diamonds suits.D → IsMaskOf set masks.hearts suits.H → IsMaskOf set masks.spades suits.S → Counts (low_count masks) cards
masks_count set masks cards lists clubs diamonds hearts spades h some few =
    elim (cases_lt 1 h) [
      | inl above ↦
          let back : h - 2 + 2 ≡ h = omega arith in
          ap (λ (b : Bool). bits (cond b 12 (h - 2))) (ne_eqb h 1 (λ same. omega arith))
          ∙ all_bits (h - 2) ∙ ap (times high_ace cards) back ∙ sym (low_times cards h (omega arith) few)
      | inr one ↦
          let is_one : h ≡ 1 = omega arith in
          ap (λ (b : Bool). bits (cond b 12 (h - 2))) (eq-eqb h 1 is_one)
          ∙ all_bits 12 ∙ sym (aces cards) ∙ ap (times low_ace cards) (sym is_one)
    ]
  where
    bits : ℕ → ℕ
    bits k = bit_at masks.clubs k + bit_at masks.diamonds k + bit_at masks.hearts k + bit_at masks.spades k

    all_bits : (k : ℕ) → bits k ≡ times high_ace cards (k + 2)
    all_bits k = omega (arith, mask_counts set masks.clubs suits.C cards lists clubs.within clubs.each k, mask_counts set masks.diamonds suits.D cards lists diamonds.within diamonds.each k, mask_counts set masks.hearts suits.H cards lists hearts.within hearts.each k, mask_counts set masks.spades suits.S cards lists spades.within spades.each k, four_suits cards (k + 2))
