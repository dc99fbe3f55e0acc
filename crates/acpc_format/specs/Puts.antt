-- The chips that each seat has put while a hand goes on.
use Rattle.std.specs.Prelude.{◌≡◌, ℕ, ◌-◌, ◌≤◌, List, map, slice_index}
use Rattle.chip_ledger.specs.declared.seat_row.TheConstants.{MOST_AMOUNT}
use Rattle.play_event.specs.CanonScript.{plain_moves}
use Rattle.play_event.specs.Chips.{chips_put}
use Rattle.play_event.specs.Past.{Move}
use Rattle.play_event.specs.Played.{move_said}
use Rattle.play_event.specs.declared.played.Move as rows
use Rattle.play_event.specs.declared.setup.Setup.{Setup}

-- ten numbers are the chips that each seat has put after these moves, seat 1 first
pub record HavePut (setup : Setup) (moves : List Move) (put : List ℕ) : Type 0 where
  pub amounts : (seat : ℕ) → 1 ≤ seat → seat ≤ 10
      → slice_index put (seat - 1) ≡ chips_put setup moves seat

-- no seat puts more chips by these moves than a row can hold
pub record HaveFewChips (setup : Setup) (moves : List rows.Move) : Type 0 where
  pub within : (seat : ℕ) → chips_put setup (plain_moves (map move_said moves)) seat ≤ MOST_AMOUNT
