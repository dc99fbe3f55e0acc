-- What the shares of a pot mean for each seat.
use Rattle.std.specs.Prelude.{◌≡◌, ◌<◌, ◌≤◌, ℕ, ◌-◌, ◌/◌, ◌⊎◌, Bool, IsTrue, length}
use Rattle.chip_ledger.specs.Pots.{PlainPot}
use Rattle.play_event.specs.declared.code.Code.{Code}
use Rattle.variant_table.specs.Division.{TellsWinners, count_to}
use Rattle.variant_table.specs.Shares.{IsLowShown, Showdown, is_contender, ranking_of}

-- a seat contends, and no other contending seat beats it
abbrev pub IsUnbeaten : (ℕ → Bool) → (ℕ → ℕ → Type 0) → ℕ → Type 0
IsUnbeaten contending beats seat =
    IsTrue (contending seat) × ((other : ℕ) → IsTrue (contending other) → ¬ (beats other seat))

-- a seat comes too late for an odd chip: there are fewer chips than winners, and no more chips than
-- winners before it
pub record IsTooLate (seats : ℕ) (contending : ℕ → Bool) (beats : ℕ → ℕ → Type 0) (chips seat : ℕ) :
    Type 0 where
  pub wins : ℕ → Bool
  pub told : TellsWinners contending beats wins
  pub few : chips < count_to wins seats
  pub late : chips ≤ count_to wins (seat - 1)

-- why a seat gets no part of chips: it does not contend, or is beaten, or is too late in line for
-- an odd chip
abbrev pub HasNoPart : ℕ → (ℕ → Bool) → (ℕ → ℕ → Type 0) → ℕ → ℕ → Type 0
HasNoPart seats contending beats chips seat =
    (¬ (IsUnbeaten contending beats seat)) ⊎ IsTooLate seats contending beats chips seat

-- each chip of a pot that several seats may win goes to an unbeaten seat: high, or low if a low
-- hand is shown
abbrev pub GoesToBest : Code → Showdown → PlainPot → (ℕ → ℕ) → Type 0
GoesToBest code showdown pot share =
    let contending = is_contender showdown pot in
    let ranking = ranking_of code showdown in
    (seat : ℕ) → 1 ≤ seat → seat ≤ showdown.seats → 2 ≤ length pot.eligible → 0 < share seat
    → IsUnbeaten contending ranking.beats seat
    ⊎ (IsLowShown contending ranking × IsUnbeaten contending ranking.beats_low seat)

-- a seat without a share of such a pot gets no part of the whole, or none of either half
abbrev pub LeavesNoneOut : Code → Showdown → PlainPot → (ℕ → ℕ) → Type 0
LeavesNoneOut code showdown pot share =
    let contending = is_contender showdown pot in
    let ranking = ranking_of code showdown in
    (seat : ℕ) → 1 ≤ seat → seat ≤ showdown.seats → 2 ≤ length pot.eligible → share seat ≡ 0
    → HasNoPart showdown.seats contending ranking.beats pot.chips seat
    ⊎ (HasNoPart showdown.seats contending ranking.beats (pot.chips - pot.chips / 2) seat
    × HasNoPart showdown.seats contending ranking.beats_low (pot.chips / 2) seat)
