-- The bits of a set of cards: setting and clearing one, those of a suit, and how many are set.
use Rattle.std.proofs.Common.{◌≡◌, ◌≢◌, ℕ, ◌+◌, ◌-◌, ◌*◌, ◌/◌, ◌%◌, ◌^◌, ◌<◌, ◌==◌, min, true, false, cond, sum_by, sym, ◌∙◌, ap, subst, arith, bit_and, bit_or, count_ones, w64}
use Rattle.std.specs.Int.{bit_at, bit_not}
use Rattle.std.proofs.lemmas.List.Sums.{length-filter}
use Rattle.std.proofs.lemmas.Nat.{shr-shr, or_lt, one_shl, and_le_l}
use Rattle.std.proofs.lemmas.Nat.Bits.{bit_at_and, bit_at_ones, bit_at-lt, bit_at_clear_same, bit_at_clear_other, bit_at_set_same, bit_at_set_other}
use Rattle.std.proofs.Math.Pow.{pow-lt}
use Rattle.card_set.specs.declared.card.Card.{Card}
use Rattle.card_set.specs.declared.card.Rank.{Rank}
use Rattle.card_set.specs.declared.card.Rank.TheVariants as ranks
use Rattle.card_set.specs.declared.set.CardSet.{CardSet}
use Rattle.card_set.specs.CardSet.{bit_index, count_of, every_card, is_in}
use Rattle.card_set.specs.Deck.{ranks_below}
use Rattle.card_set.proofs.DeckLaws.{ranks_same, suits_before-few, suits_same}
use Rattle.card_set.proofs.Bits.{bit_counts, first_sum, first_sum-agree, ones_sum}

pub ranks_below-few : (rank : Rank) → ranks_below rank < 13
ranks_below-few ranks.Two = omega arith
ranks_below-few ranks.Three = omega arith
ranks_below-few ranks.Four = omega arith
ranks_below-few ranks.Five = omega arith
ranks_below-few ranks.Six = omega arith
ranks_below-few ranks.Seven = omega arith
ranks_below-few ranks.Eight = omega arith
ranks_below-few ranks.Nine = omega arith
ranks_below-few ranks.Ten = omega arith
ranks_below-few ranks.Jack = omega arith
ranks_below-few ranks.Queen = omega arith
ranks_below-few ranks.King = omega arith
ranks_below-few ranks.Ace = omega arith

-- cards with the same bit are the same
pub bit_index-same : (a b : Card) → bit_index a ≡ bit_index b → a ≡ b
bit_index-same a b same =
    let few_a = ranks_below-few a.rank in
    let few_b = ranks_below-few b.rank in
    let rank : a.rank ≡ b.rank = ranks_same a.rank b.rank (omega (arith, same, few_a, few_b)) in
    let suit : a.suit ≡ b.suit = suits_same a.suit b.suit (omega (arith, same, few_a, few_b)) in
    ap (λ r. record { rank = r; suit = a.suit }) rank ∙ ap (λ s. record { rank = b.rank; suit = s }) suit

-- other cards have other bits
other_place : (card other : Card) (index : ℕ) → index ≡ bit_index card → other ≢ card → bit_index other ≢ index
other_place card other index is apart same = apart (bit_index-same other card (same ∙ is))

bit_index-few : (card : Card) → bit_index card < 52
bit_index-few card = omega (arith, ranks_below-few card.rank, suits_before-few card.suit)

-- a number with one more bit set is within its bounds
pub set_within : (bits index : ℕ) → bits < 2 ^ 52 → index < 52 → bit_or bits (1 * 2 ^ index % 2 ^ 64) < 2 ^ 52
set_within bits index small within =
    let one = one_shl index 64 (omega arith) in
    or_lt 52 bits (1 * 2 ^ index % 2 ^ 64) small (subst (λ (n : ℕ). n < 2 ^ 52) (sym one) (pow-lt within))

-- a bit that is set is that of its card
pub set_here : (bits index : ℕ) (card : Card) → index < 52 → index ≡ bit_index card → (bit_at (bit_or bits (1 * 2 ^ index % 2 ^ 64)) (bit_index card) == 1) ≡ true
set_here bits index card within is =
    ap (λ (k : ℕ). bit_at (bit_or bits (1 * 2 ^ index % 2 ^ 64)) k == 1) (sym is)
    ∙ ap (λ (n : ℕ). n == 1) (bit_at_set_same w64 bits index (omega arith))

-- and the others are unchanged
pub set_there : (bits index : ℕ) (card other : Card) → index < 52 → index ≡ bit_index card → other ≢ card → (bit_at (bit_or bits (1 * 2 ^ index % 2 ^ 64)) (bit_index other) == 1) ≡ (bit_at bits (bit_index other) == 1)
set_there bits index card other within is apart = ap (λ (n : ℕ). n == 1) (bit_at_set_other w64 bits index (omega arith) (bit_index other) (other_place card other index is apart))

-- a number with a bit cleared is within its bounds
pub clear_within : (bits index : ℕ) → bits < 2 ^ 52 → bit_and bits (bit_not w64 (1 * 2 ^ index % 2 ^ 64)) < 2 ^ 52
clear_within bits index small = omega (arith, and_le_l bits (bit_not w64 (1 * 2 ^ index % 2 ^ 64)), small)

-- a bit that is cleared is that of its card
pub clear_here : (bits index : ℕ) (card : Card) → index < 52 → index ≡ bit_index card → (bit_at (bit_and bits (bit_not w64 (1 * 2 ^ index % 2 ^ 64))) (bit_index card) == 1) ≡ false
clear_here bits index card within is =
    ap (λ (k : ℕ). bit_at (bit_and bits (bit_not w64 (1 * 2 ^ index % 2 ^ 64))) k == 1) (sym is)
    ∙ ap (λ (n : ℕ). n == 1) (bit_at_clear_same w64 bits index (omega arith))

-- and the others are unchanged
pub clear_there : (bits index : ℕ) (card other : Card) → index < 52 → index ≡ bit_index card → other ≢ card → (bit_at (bit_and bits (bit_not w64 (1 * 2 ^ index % 2 ^ 64))) (bit_index other) == 1) ≡ (bit_at bits (bit_index other) == 1)
clear_there bits index card other within is apart =
    ap (λ (n : ℕ). n == 1) (bit_at_clear_other w64 bits index (omega arith) (bit_index other) (omega (arith, bit_index-few other)) (other_place card other index is apart))

-- the bits of a suit
pub suit_bits : (bits s k : ℕ) → k < 13 → bit_at (bit_and (bits / 2 ^ (13 * s)) (2 ^ 13 - 1)) k ≡ bit_at bits (13 * s + k)
suit_bits bits s k within =
    let one = bit_at_ones 13 k within in
    let small = bit_at-lt (bits / 2 ^ (13 * s)) k in
    bit_at_and (bits / 2 ^ (13 * s)) (2 ^ 13 - 1) k
    ∙ ap (λ (n : ℕ). min (bit_at (bits / 2 ^ (13 * s)) k) n) one
    ∙ omega arith
    ∙ ap (λ (n : ℕ). n % 2) (shr-shr bits (13 * s) k)

-- the bits of the 52 cards are all bits
all_places : (f : ℕ → ℕ) → sum_by (λ card. f (bit_index card)) every_card ≡ first_sum f 52
unfolding every_card first_sum
all_places f = omega arith

-- there are as many set bits as cards in the set
pub ones_count : (set : CardSet) → count_ones set.bits ≡ count_of set
unfolding is_in
ones_count set =
    ones_sum 52 set.bits set.within
    ∙ first_sum-agree (bit_at set.bits) (λ k. cond (bit_at set.bits k == 1) 1 0) 52 (λ k. sym (bit_counts set.bits k))
    ∙ sym (all_places (λ k. cond (bit_at set.bits k == 1) 1 0))
    ∙ sym (length-filter (λ card. bit_at set.bits (bit_index card) == 1) every_card)
