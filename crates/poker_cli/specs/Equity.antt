-- What `equity` answers: how often each live seat would win from a street on.
use Rattle.std.specs.Prelude.{◌≡◌, ℕ, List, ◌++◌, length, codes, Some, None}
use Rattle.std.specs.Fmt.{decimal}
use Rattle.chip_ledger.specs.declared.numbers.Seat.{Seat}
use Rattle.hand_equity.specs.declared.refusal.NoEquity.TheVariants as lacking
use Rattle.hand_equity.specs.declared.row.EquityRow.{EquityRow}
use Rattle.hand_equity.specs.Street.{HasNoEquity, IsEquityOn}
use Rattle.hand_equity.specs.Text.{equity_said}
use Rattle.hand_canon.specs.declared.trace.Play.{Play}
use Rattle.poker_cli.specs.AnswerParts.{Answer, done, hand_numbered, no_hand, refusal}
use Rattle.poker_cli.specs.declared.status.Status.TheVariants as statuses

-- no board is dealt on this street of the hand with this number
abbrev pub no_street : ℕ → ℕ → Answer
no_street number street =
    refusal statuses.NoSuch
    (codes "no such street: hand "
    ++ (decimal number ++ (codes ": " ++ (decimal street ++ codes "\n"))))

-- a card of this seat of the hand with this number stayed unknown
abbrev pub no_cards : ℕ → ℕ → Answer
no_cards number seat =
    refusal statuses.NoSuch
    (codes "no such cards: hand "
    ++ (decimal number ++ (codes ": p" ++ (decimal seat ++ codes "\n"))))

-- How often each live seat of the hand with this number would win from a street on.
pub data IsEquityAt (number street : ℕ) (plays : List Play) : Answer → Type 0 where
  -- no hand has this number
  NoneNumbered : hand_numbered plays number ≡ None
      → IsEquityAt number street plays (no_hand number (length plays))
  -- no board is dealt on this street
  NoBoard : (play : Play) → hand_numbered plays number ≡ Some play
      → HasNoEquity play.trace street lacking.NoStreet
      → IsEquityAt number street plays (no_street number street)
  -- a live seat has a card that stayed unknown, and this is the first such seat
  NoCards : (play : Play) → hand_numbered plays number ≡ Some play → (seat : Seat)
      → HasNoEquity play.trace street (lacking.UnknownCards seat)
      → IsEquityAt number street plays (no_cards number seat.number)
  -- this is its equity
  Counted : (play : Play) → hand_numbered plays number ≡ Some play → (row : EquityRow)
      → IsEquityOn play.trace street row
      → IsEquityAt number street plays (done (equity_said number street play.trace row))
