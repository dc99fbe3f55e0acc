-- The hand of a table at the front of a text.
use Rattle.std.specs.Prelude.{◌≡◌, ℕ, ◌≤◌, List, [], ◌∷◌, Ok}
use Rattle.std.specs.Str.Parse.{digits_value}
use Rattle.toml.specs.Data.{Members}
use Rattle.hand_canon.specs.PlainHands.{PlainHand}
use Rattle.phh_reading.specs.Tables.{IsFirstTable}
use Rattle.phh_reading.specs.Reading.{numbered_hand}

-- A text begins with a table under this number, which is at least the least one. The table is this
-- hand, which has this place in its file, and the file has this number of moves after it.
pub record IsNextHand (file_moves place least : ℕ) (text : List ℕ) (number : ℕ) (next : List ℕ)
    (hand : PlainHand × ℕ) : Type 0 where
  pub key : List ℕ
  pub lines : List ℕ
  pub members : Members
  pub table : IsFirstTable text key lines next members
  pub number_is : number ≡ digits_value 10 key
  pub above : least ≤ number
  pub said : numbered_hand file_moves place members ≡ Ok (hand.0 ∷ [], hand.1)
