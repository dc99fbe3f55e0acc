-- The shown seats so far have their scores.
use Rattle.std.proofs.Common.{◌≡◌, ◌≤◌, ℕ, true}
use Rattle.card_set.specs.Row.{cards_of}
use Rattle.chip_ledger.specs.LiveRow.{flag_of}
use Rattle.hand_order.specs.Best.{IsPointsOfHolding}
use Rattle.hand_order.specs.Choices.{allowed}
use Rattle.showdown_split.specs.Hands.{holding}
use Rattle.showdown_split.specs.Scores.{points_of}
use Rattle.showdown_split.proofs.scoring.scores_of.Given as goal

abbrev pub invariant-loop-index : goal.invariant-loop-index
invariant-loop-index g l =
    (n : ℕ) → 1 ≤ n → n ≤ l.index → flag_of l.shown n ≡ true
    → IsPointsOfHolding g.O.HandOrder.is_hand g.O.HandOrder.is_weaker g.O.HandOrder.points (allowed l.pick (holding l.hands n) (cards_of l.board)) (points_of l.scores n)
