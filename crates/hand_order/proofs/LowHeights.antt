-- A rank has the same height whether the ace is low or high, except the ace itself.
use Rattle.std.proofs.Common.{◌≡◌, ◌≤◌, ◌==◌, ℕ, Bool, cond, List, [], ◌∷◌, refl, sym, ◌∙◌, ap, arith}
use Rattle.std.proofs.lemmas.Bool.{ne_eqb}
use Rattle.card_set.specs.declared.card.Card.{Card}
use Rattle.card_set.specs.declared.card.Rank.{Rank}
use Rattle.card_set.specs.declared.card.Rank.TheVariants as ranks
use Rattle.card_set.specs.Ranks.{high_ace, low_ace, times}
use Rattle.card_set.proofs.Counted.{times-cons, times-none}

-- except for the ace, a rank has only one height
same_height : (rank : Rank) (h : ℕ) → 2 ≤ h → h ≤ 13 → cond {A = ℕ} (low_ace rank == h) 1 0 ≡ cond (high_ace rank == h) 1 0
same_height ranks.Ace h low high =
    ap (λ (b : Bool). cond {A = ℕ} b 1 0) (ne_eqb 1 h (λ same. omega arith)) ∙ sym (ap (λ (b : Bool). cond {A = ℕ} b 1 0) (ne_eqb 14 h (λ same. omega arith)))
same_height ranks.Two h low high = refl
same_height ranks.Three h low high = refl
same_height ranks.Four h low high = refl
same_height ranks.Five h low high = refl
same_height ranks.Six h low high = refl
same_height ranks.Seven h low high = refl
same_height ranks.Eight h low high = refl
same_height ranks.Nine h low high = refl
same_height ranks.Ten h low high = refl
same_height ranks.Jack h low high = refl
same_height ranks.Queen h low high = refl
same_height ranks.King h low high = refl

pub low_times : (cards : List Card) (h : ℕ) → 2 ≤ h → h ≤ 13 → times low_ace cards h ≡ times high_ace cards h
low_times [] h low high = omega (arith, times-none low_ace h, times-none high_ace h)
low_times (card ∷ rest) h low high = omega (arith, times-cons low_ace card rest h, times-cons high_ace card rest h, same_height card.rank h low high, low_times rest h low high)

ace_height : (rank : Rank) → cond {A = ℕ} (low_ace rank == 1) 1 0 ≡ cond (high_ace rank == 14) 1 0
ace_height ranks.Ace = refl
ace_height ranks.Two = refl
ace_height ranks.Three = refl
ace_height ranks.Four = refl
ace_height ranks.Five = refl
ace_height ranks.Six = refl
ace_height ranks.Seven = refl
ace_height ranks.Eight = refl
ace_height ranks.Nine = refl
ace_height ranks.Ten = refl
ace_height ranks.Jack = refl
ace_height ranks.Queen = refl
ace_height ranks.King = refl

pub aces : (cards : List Card) → times low_ace cards 1 ≡ times high_ace cards 14
aces [] = omega (arith, times-none low_ace 1, times-none high_ace 14)
aces (card ∷ rest) = omega (arith, times-cons low_ace card rest 1, times-cons high_ace card rest 14, ace_height card.rank, aces rest)
