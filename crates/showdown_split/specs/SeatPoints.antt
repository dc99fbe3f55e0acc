-- How seats compare by their points; a seat without a hand has none.
use Rattle.std.specs.Prelude.{ℕ, zero, suc, ◌==◌, Bool, true, false, IsTrue, [], Option, Some, None, if◌then◌else◌}
use Rattle.std.specs.List.{list_any}
use Rattle.std.specs.Option.{is_some}
use Rattle.chip_ledger.specs.declared.live_row.LiveRow.{LiveRow}
use Rattle.chip_ledger.specs.LiveRow.{flag_of, flagged}
use Rattle.hand_order.specs.Best.{IsLess}
use Rattle.hand_order.specs.Points.{better}
use Rattle.variant_table.specs.Shares.{Ranking, Showdown}

-- both have the same points, or both have none
abbrev pub is_same : Option ℕ → Option ℕ → Bool
is_same None None = true
is_same None (Some y) = false
is_same (Some x) None = false
is_same (Some x) (Some y) = x == y

-- the most points of the seats up to this one that pass a test
abbrev pub best_to : (ℕ → Bool) → (ℕ → Option ℕ) → ℕ → Option ℕ
best_to test points zero = None
best_to test points (suc seat) =
    if test (suc seat)
    then better (best_to test points seat) (points (suc seat))
    else best_to test points seat

-- the seat is one of the row's, and its flag is true
abbrev pub is_flagged : LiveRow → ℕ → Bool
is_flagged row seat = list_any (λ n. n == seat) (flagged row)

-- how seats compare, given their points
abbrev pub ranking_by : (ℕ → Option ℕ) → (ℕ → Option ℕ) → Ranking
ranking_by points low = record {
  beats = λ seat other. IsLess (points other) (points seat);
  beats_low = λ seat other. IsLess (low other) (low seat);
  has_low = λ seat. IsTrue (is_some (low seat));
}

-- which seats are shown, without any cards
abbrev pub shown_only : LiveRow → Showdown
shown_only shown =
    record { seats = shown.seats; shown = flag_of shown; holding = λ n. []; board = [] }
