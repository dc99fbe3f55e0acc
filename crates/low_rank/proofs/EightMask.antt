-- The mask of the ranks of a set shows which low heights occur.
use Rattle.std.proofs.Common.{◌≡◌, ◌+◌, ◌-◌, ◌<◌, ◌≤◌, ◌==◌, ℕ, Bool, true, false, cond, List, [], ◌∷◌, filter, inl, inr, refl, sym, ◌∙◌, ap, arith, eqb-true, eq-eqb}
use Rattle.std.specs.Int.{bit_at}
use Rattle.std.proofs.lemmas.Bool.{cases_lt, le-leb, ne_eqb}
use Rattle.card_set.specs.declared.card.Card.{Card}
use Rattle.card_set.specs.Ranks.{high_ace, low_ace, times}
use Rattle.card_set.proofs.Counted.{times-cons}
use Rattle.hand_order.specs.Lowest.{has_height}
use Rattle.hand_order.specs.Tops.{Shows}
use Rattle.hand_order.proofs.LowHeights.{aces, low_times}
use Rattle.low_rank.proofs.EightBest.{Tells, is_low}

-- low heights are kept
kept_low : (cards : List Card) (h : ℕ) → h ≤ 8 → times low_ace (filter is_low cards) h ≡ times low_ace cards h
kept_low [] h few = refl
kept_low (card ∷ rest) h few = by_test (is_low card) refl (kept_low rest h few)
  where
    true_false : true ≡ false → ⊥
    true_false is = cc

    by_test : (b : Bool) → is_low card ≡ b → times low_ace (filter is_low rest) h ≡ times low_ace rest h → times low_ace (cond b (card ∷ filter is_low rest) (filter is_low rest)) h ≡ times low_ace (card ∷ rest) h
    by_test true is same = omega (arith, times-cons low_ace card (filter is_low rest) h, times-cons low_ace card rest h, same)
    by_test false is same =
        let off = ap (λ (b : Bool). cond {A = ℕ} b 1 0) (ne_eqb (low_ace card.rank) h (λ at. true_false (sym (le-leb (low_ace card.rank) 8 (omega arith)) ∙ is))) in
        omega (arith, times-cons low_ace card rest h, off, same)

-- the bit of a height
bit_tells : (cards : List Card) (all place h : ℕ) → Shows all 1 (times high_ace cards) → h ≤ 8 → times low_ace cards h ≡ times high_ace cards (place + 2) → ((bit_at all place == 1) ≡ true → 0 < times low_ace (filter is_low cards) h) × (0 < times low_ace (filter is_low cards) h → (bit_at all place == 1) ≡ true)
bit_tells cards all place h shows few same = (
  λ set. let occurs = (shows.each place).0 (eqb-true (bit_at all place) 1 set) in omega (arith, kept_low cards h few, same),
  λ some. eq-eqb (bit_at all place) 1 ((shows.each place).1 (omega (arith, kept_low cards h few, same))),
)

pub mask_tells : (cards : List Card) (all : ℕ) → Shows all 1 (times high_ace cards) → Tells (has_height all) cards
mask_tells cards all shows h some few =
    elim (cases_lt 1 h) [
      | inl above ↦
          let off = ap (λ (b : Bool). bit_at all (cond b 12 (h - 2)) == 1) (ne_eqb h 1 (λ same. omega arith)) in
          let back : h - 2 + 2 ≡ h = omega arith in
          let says = bit_tells cards all (h - 2) h shows few (low_times cards h (omega arith) (omega arith) ∙ ap (times high_ace cards) (sym back)) in
          ((λ is. says.0 (sym off ∙ is)), (λ occurs. off ∙ says.1 occurs))
      | inr one ↦
          let is_one : h ≡ 1 = omega arith in
          let off = ap (λ (b : Bool). bit_at all (cond b 12 (h - 2)) == 1) (eq-eqb h 1 is_one) in
          let says = bit_tells cards all 12 h shows few (ap (times low_ace cards) is_one ∙ aces cards) in
          ((λ is. says.0 (sym off ∙ is)), (λ occurs. off ∙ says.1 occurs))
    ]
