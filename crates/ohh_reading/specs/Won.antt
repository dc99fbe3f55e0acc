-- What is won of pots.
use Rattle.std.specs.Prelude.{ℕ, ◌==◌, List, filter, sum_by}
use Rattle.ohh_reading.specs.declared.won.Win.{Win}

-- what the player in a seat wins of a pot
pub record PlainWin : Type 0 where
  pub seat : ℕ
  pub chips : ℕ

-- a win, as the definitions see it
abbrev pub plain_win : Win → PlainWin
plain_win win = record { seat = win.seat.number; chips = win.chips }

-- all that a seat wins
abbrev pub won_by : ℕ → List PlainWin → ℕ
won_by seat wins = sum_by (λ win. win.chips) (filter (λ win. win.seat == seat) wins)
