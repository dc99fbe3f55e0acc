-- How the chips of a pot are divided among the seats that win it.
use Rattle.std.specs.Prelude.{◌≡◌, ◌≤◌, ℕ, zero, suc, ◌+◌, ◌-◌, ◌/◌, ◌%◌, Bool, IsTrue, nat_lt, ◌↔◌, if◌then◌else◌}

-- how many of the seats up to this one pass a test
abbrev pub count_to : (ℕ → Bool) → ℕ → ℕ
count_to test zero = 0
count_to test (suc seat) = count_to test seat + (if test (suc seat) then 1 else 0)

-- what a seat gets of chips that are divided evenly among the winners, with this number of seats:
-- the even part, and perhaps an odd chip; the odd chips go one each to the winners from p1 upward
abbrev pub divided : ℕ → (ℕ → Bool) → ℕ → ℕ → ℕ
divided seats wins chips seat =
    if wins seat
    then chips / count_to wins seats
    + (if nat_lt (count_to wins (seat - 1)) (chips % count_to wins seats) then 1 else 0)
    else 0

-- a test is true for a seat if and only if it is a winner: it contends, and no other contending
-- seat beats it
abbrev pub TellsWinners : (ℕ → Bool) → (ℕ → ℕ → Type 0) → (ℕ → Bool) → Type 0
TellsWinners contending beats wins =
    (seat : ℕ)
    → IsTrue (wins seat)
    ↔ (IsTrue (contending seat)
    × ((other : ℕ) → IsTrue (contending other) → ¬ (beats other seat)))

-- each of this many seats gets its part of chips that are divided among the winners
pub record AreParts (seats : ℕ) (contending : ℕ → Bool) (beats : ℕ → ℕ → Type 0) (chips : ℕ)
    (share : ℕ → ℕ) : Type 0 where
  pub wins : ℕ → Bool
  pub told : TellsWinners contending beats wins
  pub parts : (seat : ℕ) → 1 ≤ seat → seat ≤ seats → share seat ≡ divided seats wins chips seat

-- each seat gets its parts of both halves of a pot; the odd chip goes to the high half
pub record AreHalves (seats : ℕ) (contending : ℕ → Bool) (beats beats_low : ℕ → ℕ → Type 0)
    (chips : ℕ) (share : ℕ → ℕ) : Type 0 where
  pub high : ℕ → ℕ
  pub low : ℕ → ℕ
  pub high_parts : AreParts seats contending beats (chips - chips / 2) high
  pub low_parts : AreParts seats contending beats_low (chips / 2) low
  pub together : (seat : ℕ) → 1 ≤ seat → seat ≤ seats → share seat ≡ high seat + low seat
