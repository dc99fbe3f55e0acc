-- Two rankings that agree on the seats that contend.
use Rattle.std.specs.Prelude.{◌≡◌, ◌≤◌, ◌↔◌, ℕ, Bool, true, IsTrue, Option}
use Rattle.play_event.specs.declared.code.Code.{Code}
use Rattle.variant_table.specs.Shares.{IsLowShown, Ranking, Showdown, ranking_of}
use Rattle.showdown_split.specs.SeatPoints.{ranking_by}

-- two rankings agree on the seats that contend, and on their low hands if one is shown
pub record AreAlike (contending : ℕ → Bool) (a b : Ranking) : Type 0 where
  pub beats : (m n : ℕ) → IsTrue (contending m) → IsTrue (contending n) → a.beats m n ↔ b.beats m n
  pub beats_low : IsLowShown contending b → (m n : ℕ) → IsTrue (contending m)
      → IsTrue (contending n) → a.beats_low m n ↔ b.beats_low m n
  pub has_low : (n : ℕ) → IsTrue (contending n) → a.has_low n ↔ b.has_low n

-- by these points, high and low, the shown seats compare as they do in the game
abbrev pub AreScored : Code → Showdown → (ℕ → Option ℕ) → (ℕ → Option ℕ) → Type 0
AreScored code showdown high low =
    (contending : ℕ → Bool)
    → ((n : ℕ) → contending n ≡ true → (1 ≤ n) × (n ≤ showdown.seats) × (showdown.shown n ≡ true))
    → AreAlike contending (ranking_by high low) (ranking_of code showdown)
