-- Stated facts: made from their parts, and none.
use Rattle.std.specs.Prelude.{◌≡◌, ℕ, Option, None}
use Rattle.chip_ledger.specs.declared.seat_row.SeatRow.{SeatRow}
use Rattle.hand_canon.specs.declared.record.NetRow.{NetRow}
use Rattle.hand_canon.specs.declared.record.Stated.{Stated}

-- stated facts, made from their parts
unfoldable pub stated_from : Option SeatRow → Option SeatRow → Option ℕ → Option NetRow → Stated
stated_from finish wins pot_total values =
    record { finish = finish; wins = wins; pot_total = pot_total; values = values }

-- nothing is stated
pub record IsNothingStated (stated : Stated) : Type 0 where
  pub finish : stated.finish ≡ None
  pub wins : stated.wins ≡ None
  pub pot_total : stated.pot_total ≡ None
  pub values : stated.values ≡ None
