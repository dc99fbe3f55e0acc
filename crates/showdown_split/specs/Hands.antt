-- The cards of each seat in a row of hands, and what is visible at the end of a hand.
use Rattle.std.specs.Prelude.{ℕ, List}
use Rattle.card_set.specs.declared.card.Card.{Card}
use Rattle.card_set.specs.declared.row.CardRow.{CardRow}
use Rattle.card_set.specs.Row.{cards_of}
use Rattle.chip_ledger.specs.declared.live_row.LiveRow.{LiveRow}
use Rattle.chip_ledger.specs.LiveRow.{flag_of}
use Rattle.play_event.specs.declared.hands.HandRow.{HandRow}
use Rattle.play_event.specs.SeatSlots.{slots_of_hand}
use Rattle.variant_table.specs.Shares.{Showdown}
use Rattle.card_set.specs.Known.{known_among}

-- the known cards of seat number n
abbrev pub holding : HandRow → ℕ → List Card
holding hands n = known_among (slots_of_hand hands n)

-- the showdown of these hands, board and shown seats
abbrev pub showdown_of : HandRow → CardRow → LiveRow → Showdown
showdown_of hands board shown =
    record {
      seats = shown.seats;
      shown = flag_of shown;
      holding = holding hands;
      board = cards_of board;
    }
