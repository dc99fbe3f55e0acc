-- Two showdowns with the same shown hands.
use Rattle.std.specs.Prelude.{◌≡◌, ℕ, ◌≤◌, true}
use Rattle.variant_table.specs.Shares.{Showdown}

-- they have the same seats, the same seats are shown and hold the same cards, and the board is the
-- same
pub record ShowTheSame (a b : Showdown) : Type 0 where
  pub seats : a.seats ≡ b.seats
  pub shown : (seat : ℕ) → 1 ≤ seat → seat ≤ a.seats → a.shown seat ≡ b.shown seat
  pub holding : (seat : ℕ) → 1 ≤ seat → seat ≤ a.seats → a.shown seat ≡ true
      → a.holding seat ≡ b.holding seat
  pub board : a.board ≡ b.board
