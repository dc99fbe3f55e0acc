-- Shares stay those of a pot if the same seats contend and compare in the same way.
use Rattle.std.proofs.Common.{◌≡◌, ◌/◌, ◌-◌, ℕ, Bool, IsTrue, inl, inr, refl, sym, ◌∙◌, ◌↔◌}
use Rattle.chip_ledger.specs.Pots.{PlainPot}
use Rattle.variant_table.specs.Division.{AreParts, TellsWinners}
use Rattle.variant_table.specs.Shares.{AreContested, AreShares, IsLowShown, Ranking}
use Rattle.showdown_split.specs.Alike.{AreAlike}

same_winners : (p q wins : ℕ → Bool) (a b : ℕ → ℕ → Type 0) → ((n : ℕ) → p n ≡ q n) → ((m n : ℕ) → IsTrue (q m) → IsTrue (q n) → a m n ↔ b m n) → TellsWinners p a wins → TellsWinners q b wins
same_winners p q wins a b same alike told seat = (
  λ win.
      let unbeaten = (told seat).0 win in
      let here = sym (same seat) ∙ unbeaten.0 in
      (here, λ other contends beats. unbeaten.1 other (same other ∙ contends) ((alike other seat contends here).1 beats)),
  λ unbeaten. (told seat).1 (same seat ∙ unbeaten.0, λ other contends beats. unbeaten.1 other (sym (same other) ∙ contends) ((alike other seat (sym (same other) ∙ contends) unbeaten.0).0 beats)),
)

same_parts : (seats : ℕ) (p q : ℕ → Bool) (a b : ℕ → ℕ → Type 0) (chips : ℕ) (share : ℕ → ℕ) → ((n : ℕ) → p n ≡ q n) → ((m n : ℕ) → IsTrue (q m) → IsTrue (q n) → a m n ↔ b m n) → AreParts seats p a chips share → AreParts seats q b chips share
same_parts seats p q a b chips share same alike are = record {
  wins = are.wins;
  told = same_winners p q are.wins a b same alike are.told;
  parts = are.parts;
}

pub same_contested : (seats : ℕ) (p q : ℕ → Bool) (a b : Ranking) (chips : ℕ) (share : ℕ → ℕ) → ((n : ℕ) → p n ≡ q n) → AreAlike q a b → AreContested seats p a chips share → AreContested seats q b chips share
same_contested seats p q a b chips share same alike (inl (none, are)) =
    inl (λ (seat, contends, has). none (seat, same seat ∙ contends, (alike.has_low seat contends).1 has), same_parts seats p q a.beats b.beats chips share same alike.beats are)
same_contested seats p q a b chips share same alike (inr ((seat, contends, has), are)) =
    let here = sym (same seat) ∙ contends in
    let shown : IsLowShown q b = (seat, here, (alike.has_low seat here).0 has) in
    inr (
      shown,
      record {
        high = are.high;
        low = are.low;
        high_parts = same_parts seats p q a.beats b.beats (chips - chips / 2) are.high same alike.beats are.high_parts;
        low_parts = same_parts seats p q a.beats_low b.beats_low (chips / 2) are.low same (alike.beats_low shown) are.low_parts;
        together = are.together;
      },
    )

-- the shares of a pot by one ranking are those by another that agrees with it
pub same_shares : (seats : ℕ) (contending : ℕ → Bool) (a b : Ranking) (pot : PlainPot) (share : ℕ → ℕ) → AreAlike contending a b → AreShares seats contending a pot share → AreShares seats contending b pot share
same_shares seats contending a b pot share alike (inl one) = inl one
same_shares seats contending a b pot share alike (inr shown) = inr (record {
  several = shown.several;
  someone = shown.someone;
  contested = same_contested seats contending contending a b pot.chips share (λ n. refl) alike shown.contested;
})

-- a ranking agrees with itself
pub alike_itself : (contending : ℕ → Bool) (a : Ranking) → AreAlike contending a a
alike_itself contending a = record {
  beats = λ m n first second. (λ h. h, λ h. h);
  beats_low = λ shown m n first second. (λ h. h, λ h. h);
  has_low = λ n contends. (λ h. h, λ h. h);
}
