-- If seats compare by points, one of the contenders wins, and the parts add up to all chips.
use Rattle.std.proofs.Common.{◌≡◌, ◌<◌, ◌≤◌, ℕ, ◌-◌, ◌/◌, ◌+◌, Bool, true, Option, ◌↔◌, sum_by, arith, ◌∙◌}
use Rattle.chip_ledger.specs.Seat.{seats_of}
use Rattle.chip_ledger.proofs.Seats.{sum-seats}
use Rattle.hand_order.specs.Best.{IsLess}
use Rattle.card_set.proofs.Sums.{sum_by-plus}
use Rattle.showdown_split.proofs.Bests.{best_win, count_some, some_wins}
use Rattle.showdown_split.proofs.Parts.{parts_total}
use Rattle.variant_table.specs.Division.{AreHalves, AreParts, TellsWinners, count_to, divided}

-- a relation between contending seats of the hand says which of them have more points
pub record AreCompared (seats : ℕ) (contending : ℕ → Bool) (beats : ℕ → ℕ → Type 0) : Type 0 where
  pub points : ℕ → Option ℕ
  pub inside : (seat : ℕ) → contending seat ≡ true → (1 ≤ seat) × (seat ≤ seats)
  pub alike : (seat other : ℕ) → contending seat ≡ true → contending other ≡ true → IsLess (points other) (points seat) ↔ beats seat other

-- if some seat contends, some seat wins
some_winner : (seats : ℕ) (contending : ℕ → Bool) (beats : ℕ → ℕ → Type 0) (wins : ℕ → Bool) (seat : ℕ)
    → AreCompared seats contending beats → TellsWinners contending beats wins → contending seat ≡ true
    → 0 < count_to wins seats
some_winner seats contending beats wins seat are told contends =
    let range = are.inside seat contends in
    let won = some_wins seats contending are.points seat range.0 range.1 contends in
    let unbeaten = (best_win seats contending are.points are.inside won.seat).0 won.win in
    count_some wins seats won.seat won.first won.last
    ((told won.seat).1 (unbeaten.0, λ other other_contends beaten. unbeaten.1 other other_contends ((are.alike other won.seat other_contends unbeaten.0).1 beaten)))

-- the parts add up to all chips
pub whole_parts : (seats : ℕ) (contending : ℕ → Bool) (beats : ℕ → ℕ → Type 0) (chips : ℕ) (share : ℕ → ℕ) (seat : ℕ)
    → AreCompared seats contending beats → contending seat ≡ true
    → AreParts seats contending beats chips share → sum_by share (seats_of seats) ≡ chips
whole_parts seats contending beats chips share seat compared contends are =
    sum-seats share (divided seats are.wins chips) seats are.parts
    ∙ parts_total seats are.wins chips (some_winner seats contending beats are.wins seat compared are.told contends)

-- and so are the parts of both halves
pub whole_halves : (seats : ℕ) (contending : ℕ → Bool) (beats low : ℕ → ℕ → Type 0) (chips : ℕ) (share : ℕ → ℕ) (seat : ℕ)
    → AreCompared seats contending beats → AreCompared seats contending low → contending seat ≡ true
    → AreHalves seats contending beats low chips share → sum_by share (seats_of seats) ≡ chips
whole_halves seats contending beats low chips share seat compared low_compared contends are =
    let half : chips / 2 ≤ chips = omega arith in
    omega (
      arith,
      half,
      sum-seats share (λ n. are.high n + are.low n) seats are.together,
      sum_by-plus are.high are.low (seats_of seats),
      whole_parts seats contending beats (chips - chips / 2) are.high seat compared contends are.high_parts,
      whole_parts seats contending low (chips / 2) are.low seat low_compared contends are.low_parts,
    )
