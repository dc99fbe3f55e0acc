-- If cards have as many of each height as are wanted, some choice of them has exactly those.
use Rattle.std.proofs.Common.{◌≡◌, ℕ, suc, ◌+◌, ◌-◌, ◌≤◌, ◌==◌, Bool, true, false, cond, List, [], ◌∷◌, sum_by, inl, inr, refl, sym, ◌∙◌, ap, subst, arith, eqb-true}
use Rattle.std.proofs.lemmas.Bool.{cases_lt}
use Rattle.std.proofs.lemmas.List.Sums.{sum_by-cons}
use Rattle.card_set.specs.declared.card.Card.{Card}
use Rattle.card_set.specs.declared.card.Rank.{Rank}
use Rattle.card_set.specs.Ranks.{falling_heights, times}
use Rattle.card_set.proofs.Counted.{IsHeight, times-none, times-cons}
use Rattle.hand_order.specs.Choices.{choices, IsAmong}
use Rattle.hand_order.proofs.SameChoices.{none_chosen, with_first, without_first}
use Rattle.hand_order.specs.Patterns.{Within}
use Rattle.card_set.proofs.Sums.{sum_by-zero}

-- a choice of this number of cards that has exactly the wanted heights
pub record IsWanted (height : Rank → ℕ) (wanted : ℕ → ℕ) (n : ℕ) (cards : List Card) : Type 0 where
  pub choice : List Card
  pub among : IsAmong choice (choices n cards)
  pub has : (h : ℕ) → times height choice h ≡ wanted h

-- one fewer of a height
abbrev pub fewer : (ℕ → ℕ) → ℕ → ℕ → ℕ
fewer wanted k h = cond (k == h) (wanted h - 1) (wanted h)

-- the sum of one fewer of a height
sum_by-fewer : (wanted : ℕ → ℕ) (k : ℕ) (hs : List ℕ) → 1 ≤ wanted k → sum_by (fewer wanted k) hs + sum_by (λ h. cond (k == h) 1 0) hs ≡ sum_by wanted hs
sum_by-fewer wanted k [] some = refl
sum_by-fewer wanted k (h ∷ hs) some =
    omega (arith, sum_by-cons (fewer wanted k) h hs, sum_by-cons (λ h. cond (k == h) 1 0) h hs, sum_by-cons wanted h hs, sum_by-fewer wanted k hs some, here (k == h) refl)
  where
    here : (b : Bool) → (k == h) ≡ b → cond b (wanted h - 1) (wanted h) + cond b 1 0 ≡ wanted h
    here true is = let same = ap wanted (eqb-true k h is) in omega arith
    here false is = omega arith

-- a choice without the first card
skipped : (height : Rank → ℕ) (card : Card) (rest : List Card) (wanted : ℕ → ℕ) (n : ℕ) → IsWanted height wanted n rest → IsWanted height wanted n (card ∷ rest)
skipped height card rest wanted n is = record { choice = is.choice; among = without_first n card rest is.choice is.among; has = is.has }

-- what is wanted of the others, if the first card's height is not wanted
skipped_within : (height : Rank → ℕ) (card : Card) (rest : List Card) (wanted : ℕ → ℕ) → Within wanted (times height (card ∷ rest)) → wanted (height card.rank) ≡ 0 → Within wanted (times height rest)
skipped_within height card rest wanted within none h = other (height card.rank == h) refl
  where
    other : (b : Bool) → (height card.rank == h) ≡ b → wanted h ≤ times height rest h
    other true test = let same = ap wanted (eqb-true (height card.rank) h test) in omega arith
    other false test = let no = ap (λ (b : Bool). cond {A = ℕ} b 1 0) test in omega (arith, within h, times-cons height card rest h, no)

-- what is wanted of the others, if the first card is taken
taken_within : (height : Rank → ℕ) (card : Card) (rest : List Card) (wanted : ℕ → ℕ) → Within wanted (times height (card ∷ rest)) → Within (fewer wanted (height card.rank)) (times height rest)
taken_within height card rest wanted within h = other (height card.rank == h) refl
  where
    other : (b : Bool) → (height card.rank == h) ≡ b → cond b (wanted h - 1) (wanted h) ≤ times height rest h
    other true test = let yes = ap (λ (b : Bool). cond {A = ℕ} b 1 0) test in omega (arith, within h, times-cons height card rest h, yes)
    other false test = let no = ap (λ (b : Bool). cond {A = ℕ} b 1 0) test in omega (arith, within h, times-cons height card rest h, no)

-- a choice with the first card
taken : (height : Rank → ℕ) (card : Card) (rest : List Card) (wanted : ℕ → ℕ) (n : ℕ) → 1 ≤ wanted (height card.rank) → IsWanted height (fewer wanted (height card.rank)) n rest → IsWanted height wanted (suc n) (card ∷ rest)
taken height card rest wanted n some is = record {
  choice = card ∷ is.choice;
  among = with_first n card rest is.choice is.among;
  has = λ h. all h (height card.rank == h) refl (times height is.choice h) (times height (card ∷ is.choice) h) (is.has h) (times-cons height card is.choice h);
}
  where
    all : (h : ℕ) (b : Bool) → (height card.rank == h) ≡ b → (t u : ℕ) → t ≡ cond b (wanted h - 1) (wanted h) → u ≡ cond (height card.rank == h) 1 0 + t → u ≡ wanted h
    all h true test t u t_is u_is =
        let same = ap wanted (eqb-true (height card.rank) h test) in
        let yes = ap (λ (b : Bool). cond {A = ℕ} b 1 0) test in omega arith
    all h false test t u t_is u_is = let no = ap (λ (b : Bool). cond {A = ℕ} b 1 0) test in omega arith

-- if at most what is there is wanted, it can be chosen
pub wanted_chosen : (height : Rank → ℕ) → IsHeight height → (cards : List Card) (wanted : ℕ → ℕ) (n : ℕ) → Within wanted (times height cards) → sum_by wanted falling_heights ≡ n → IsWanted height wanted n cards
wanted_chosen height is [] wanted n within sum =
    let empty : n ≡ 0 = sym sum ∙ sum_by-zero wanted falling_heights (λ h. omega (arith, within h, times-none height h)) in
    record {
      choice = [];
      among = subst (λ (k : ℕ). IsAmong [] (choices k [])) (sym empty) (none_chosen []);
      has = λ h. omega (arith, within h, times-none height h);
    }
wanted_chosen height is (card ∷ rest) wanted n within sum =
    elim (cases_lt 0 (wanted (height card.rank))) [
      | inl some ↦
          let fewer_sum = sum_by-fewer wanted (height card.rank) falling_heights (omega arith) in
          let one = is.one card.rank in
          subst (λ (k : ℕ). IsWanted height wanted k (card ∷ rest)) (omega arith)
          (taken height card rest wanted (n - 1) (omega arith) (wanted_chosen height is rest (fewer wanted (height card.rank)) (n - 1) (taken_within height card rest wanted within) (omega arith)))
      | inr none ↦ skipped height card rest wanted n (wanted_chosen height is rest wanted n (skipped_within height card rest wanted within (omega arith)) sum)
    ]
