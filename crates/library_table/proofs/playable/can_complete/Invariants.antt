-- The seats so far have whole hands.
use Rattle.std.proofs.Common.{◌≡◌, ◌≤◌, ◌++◌, ℕ, true, length}
use Rattle.card_set.specs.Different.{AllDifferent}
use Rattle.card_set.specs.Row.{cards_of}
use Rattle.chip_ledger.specs.LiveRow.{flag_of}
use Rattle.showdown_split.specs.Hands.{holding}
use Rattle.library_table.proofs.playable.can_complete.Given as goal

abbrev pub invariant-loop-index : goal.invariant-loop-index
invariant-loop-index g l =
    ((n : ℕ) → 1 ≤ n → n ≤ l.index → flag_of l.live n ≡ true → length (holding l.hands n) ≡ l.cards)
    × ((n : ℕ) → 1 ≤ n → n ≤ l.index → flag_of l.live n ≡ true → AllDifferent (holding l.hands n ++ cards_of l.board))
