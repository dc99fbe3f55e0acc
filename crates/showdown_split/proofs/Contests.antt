-- The seats of a row that have the most points are its winners, and the parts of chips that are
-- divided among them are those of the rule.
use Rattle.std.proofs.Common.{◌≡◌, ◌≢◌, ◌<◌, ◌≤◌, ℕ, ◌&&◌, Bool, [], Option, sym, ◌∙◌, ap, arith}
use Rattle.chip_ledger.specs.declared.live_row.LiveRow.{LiveRow}
use Rattle.chip_ledger.specs.LiveRow.{flag_of, flagged}
use Rattle.hand_order.specs.Best.{IsLess}
use Rattle.variant_table.specs.Division.{AreParts, count_to, divided}
use Rattle.showdown_split.specs.SeatPoints.{best_to, is_flagged, is_same}
use Rattle.showdown_split.proofs.Bests.{best_to-agree, best_win, count_some, has_best, some_wins}
use Rattle.showdown_split.proofs.Flagged.{flagged_inside, is_flagged-flag, some_flagged}
use Rattle.showdown_split.proofs.Parts.{divided-agree}

-- the flags mark the seats of the row with the most points
abbrev pub Marks : LiveRow → LiveRow → (ℕ → Option ℕ) → Type 0
Marks row marked points =
    (n : ℕ) → 1 ≤ n → n ≤ row.seats → flag_of marked n ≡ (flag_of row n && is_same (points n) (best_to (flag_of row) points row.seats))

-- the best of the flags is that of the flagged seats
pub best_flagged : (row : LiveRow) (points : ℕ → Option ℕ) → best_to (is_flagged row) points row.seats ≡ best_to (flag_of row) points row.seats
best_flagged row points = best_to-agree (is_flagged row) (flag_of row) points row.seats (λ k low high. is_flagged-flag row k low)

marked_best : (row marked : LiveRow) (points : ℕ → Option ℕ) → Marks row marked points → (n : ℕ) → 1 ≤ n → n ≤ row.seats → flag_of marked n ≡ has_best (is_flagged row) points row.seats n
marked_best row marked points marks n low high =
    marks n low high
    ∙ ap (λ (b : Bool). b && is_same (points n) (best_to (flag_of row) points row.seats)) (sym (is_flagged-flag row n low))
    ∙ ap (λ (best : Option ℕ). is_flagged row n && is_same (points n) best) (sym (best_flagged row points))

-- some seat is marked if the row has one
pub marked_some : (row marked : LiveRow) (points : ℕ → Option ℕ) → marked.seats ≡ row.seats → Marks row marked points → flagged row ≢ [] → 0 < count_to (flag_of marked) marked.seats
marked_some row marked points same marks some =
    let one = some_flagged row some in
    let range = flagged_inside row one.0 one.1 in
    let won = some_wins row.seats (is_flagged row) points one.0 range.0 range.1 one.1 in
    count_some (flag_of marked) marked.seats won.seat won.first (omega (arith, won.last, same)) (marked_best row marked points marks won.seat won.first won.last ∙ won.win)

-- chips that are divided among the marked seats
pub marked_parts : (row marked : LiveRow) (points : ℕ → Option ℕ) (chips : ℕ) (share : ℕ → ℕ) → marked.seats ≡ row.seats → Marks row marked points → ((n : ℕ) → 1 ≤ n → n ≤ marked.seats → share n ≡ divided marked.seats (flag_of marked) chips n) → AreParts row.seats (is_flagged row) (λ seat other. IsLess (points other) (points seat)) chips share
marked_parts row marked points chips share same marks parts = record {
  wins = has_best (is_flagged row) points row.seats;
  told = best_win row.seats (is_flagged row) points (flagged_inside row);
  parts = λ n low high.
      parts n low (omega (arith, high, same))
      ∙ ap (λ (seats : ℕ). divided seats (flag_of marked) chips n) same
      ∙ divided-agree row.seats (flag_of marked) (has_best (is_flagged row) points row.seats) chips n (marked_best row marked points marks) low high;
}
