-- What a street deals next.
use Rattle.std.specs.Prelude.{◌≡◌, ℕ, nat_lt, find, Option, Some, None}
use Rattle.chip_ledger.specs.SeatsSaid.{seat_said}
use Rattle.play_event.specs.declared.setup.Setup.{Setup}
use Rattle.play_event.specs.Dealing.{board_cards_owed, cards_owed}
use Rattle.play_event.specs.Past.{Past}
use Rattle.play_event.specs.Seats.{all_seats}
use Rattle.card_places.specs.declared.owing.NextDeal.{NextDeal}

-- the first seat, from seat 1 on, that is owed cards of a street
abbrev pub first_owed : Setup → Past → ℕ → Option ℕ
first_owed setup past street =
    find (λ seat. nat_lt 0 (cards_owed setup past street seat)) (all_seats setup)

-- the number of cards of a street that an owner (a seat or the board) is owed
abbrev pub owed_to : Setup → Past → ℕ → Option ℕ → ℕ
owed_to setup past street (Some seat) = cards_owed setup past street seat
owed_to setup past street None = board_cards_owed setup past street

-- this is what the street deals next
pub record IsNextDeal (setup : Setup) (past : Past) (street : ℕ) (deal : NextDeal) : Type 0 where
  -- it goes to the first seat that is owed cards or, if none is, to the board
  pub owner : seat_said deal.owner ≡ first_owed setup past street
  -- and has all cards that the owner is owed
  pub count : deal.count ≡ owed_to setup past street (seat_said deal.owner)
