-- The live seats so far have their worths, and the others none.
use Rattle.std.proofs.Common.{◌≡◌, ◌≤◌, ◌<◌, ℕ, true, false, length}
use Rattle.card_set.specs.Row.{cards_of}
use Rattle.chip_ledger.specs.LiveRow.{flag_of}
use Rattle.hand_order.specs.Best.{IsPointsOfHolding}
use Rattle.hand_order.specs.Choices.{allowed}
use Rattle.showdown_split.specs.Hands.{holding}
use Rattle.hand_equity.specs.Worths.{points_in, worth_of}
use Rattle.hand_equity.proofs.worth.strengths_on.Given as goal

abbrev pub invariant-loop-index : goal.invariant-loop-index
invariant-loop-index g l =
    (length l.worths ≡ 10)
    × ((n : ℕ) → 1 ≤ n → n ≤ l.index → flag_of l.live n ≡ true → IsPointsOfHolding g.O.HandOrder.is_hand g.O.HandOrder.is_weaker g.O.HandOrder.points (allowed l.pick (holding l.hands n) (cards_of l.board)) (points_in (worth_of l.worths n)))
    × ((n : ℕ) → 1 ≤ n → flag_of l.live n ≡ false → worth_of l.worths n ≡ 0)
    × ((n : ℕ) → l.index < n → worth_of l.worths n ≡ 0)
