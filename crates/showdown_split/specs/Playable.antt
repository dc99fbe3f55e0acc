-- What the split of pots needs: hands that can be compared, and pots that can be won.
use Rattle.std.specs.Prelude.{◌≡◌, ◌≢◌, ◌≤◌, ◌++◌, ℕ, true, List, [], All}
use Rattle.card_set.specs.declared.row.CardRow.{CardRow}
use Rattle.card_set.specs.Different.{AllDifferent}
use Rattle.card_set.specs.Row.{cards_of}
use Rattle.chip_ledger.specs.declared.pots.Pot.{Pot}
use Rattle.chip_ledger.specs.declared.live_row.LiveRow.{LiveRow}
use Rattle.chip_ledger.specs.declared.seat_row.TheConstants.{MOST_AMOUNT}
use Rattle.chip_ledger.specs.LiveRow.{flag_of, flagged}
use Rattle.card_set.specs.declared.pick.Pick.{Pick}
use Rattle.hand_order.specs.Choices.{CanPick}
use Rattle.play_event.specs.declared.hands.HandRow.{HandRow}
use Rattle.showdown_split.specs.Hands.{holding}

-- each shown seat up to this one has cards that the pick can use, all different from one another
-- and from the board's
pub record ArePlayableTo (last held : ℕ) (pick : Pick) (hands : HandRow) (board : CardRow)
    (shown : LiveRow) : Type 0 where
  pub usable : (n : ℕ) → 1 ≤ n → n ≤ last → flag_of shown n ≡ true
      → CanPick held pick (holding hands n) (cards_of board)
  pub different : (n : ℕ) → 1 ≤ n → n ≤ last → flag_of shown n ≡ true
      → AllDifferent (holding hands n ++ cards_of board)

-- this holds for each shown seat
abbrev pub ArePlayable : ℕ → Pick → HandRow → CardRow → LiveRow → Type 0
ArePlayable held pick hands board shown = ArePlayableTo shown.seats held pick hands board shown

-- each pot has this number of seats, one of them may win it, and it has no more chips than a row
-- can hold
pub record AreWinnable (seats : ℕ) (pots : List Pot) : Type 0 where
  pub same_seats : All (λ (pot : Pot). pot.eligible.seats ≡ seats) pots
  pub winnable : All (λ (pot : Pot). flagged pot.eligible ≢ []) pots
  pub bounded : All (λ (pot : Pot). pot.chips ≤ MOST_AMOUNT) pots
