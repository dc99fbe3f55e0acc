-- Which past a state of the cards stands for.
use Rattle.std.specs.Prelude.{◌≡◌, ℕ}
use Rattle.chip_ledger.specs.Seat.{IsSeatOf}
use Rattle.chip_ledger.specs.declared.live_row.LiveRow.{LiveRow}
use Rattle.chip_ledger.specs.LiveRow.{flag_of}
use Rattle.play_event.specs.declared.reason.Due.{Due}
use Rattle.play_event.specs.declared.setup.Setup.{Setup}
use Rattle.play_event.specs.Past.{Past, moves_of}
use Rattle.play_event.specs.Dealing.{cards_discarded, has_drawn}
use Rattle.play_event.specs.Showing.{has_shown, has_mucked}
use Rattle.play_event.specs.Seats.{is_live}
use Rattle.play_event.specs.Due.{turn}
use Rattle.play_event.specs.Table.{places_of}
use Rattle.card_places.specs.declared.card_state.CardState.{CardState}
use Rattle.card_places.specs.Drawn.{has_drawn_at, named_at}
use Rattle.card_places.specs.Placed.{placed}

-- A state stands for a past if it has its places, draws, shows and mucks. Nothing else is asked of
-- the past.
pub record StandsFor (t : CardState) (past : Past) : Type 0 where
  -- its cards, in the order of dealing, are the places of the past
  pub places : placed t.places ≡ places_of t.table.code past
  -- it has who drew on which street
  pub drew : (street seat : ℕ) → IsSeatOf t.seats seat
      → has_drawn_at t.draws street seat ≡ has_drawn past street seat
  -- and how many cards each seat discarded there, and so how many it is still owed
  pub named : (street seat : ℕ) → IsSeatOf t.seats seat
      → named_at t.draws street seat ≡ cards_discarded past street seat
  -- it has who showed
  pub shown : (seat : ℕ) → IsSeatOf t.seats seat → flag_of t.shown seat ≡ has_shown past seat
  -- and who mucked
  pub mucked : (seat : ℕ) → IsSeatOf t.seats seat → flag_of t.mucked seat ≡ has_mucked past seat

-- what calls require of a past: it is one that the state stands for, and what is due and who is
-- live are as the call says
pub record IsNow (t : CardState) (due : Due) (live : LiveRow) (setup : Setup) (past : Past) : Type 0
  where
    -- the hand is of the state's game
    pub code_is : setup.code ≡ t.table.code
    -- and has its seats
    pub seats : setup.stacks.seats ≡ t.seats
    -- the state stands for the past
    pub stands : StandsFor t past
    -- this is due after it
    pub due_is : (turn setup past).1 ≡ due
    -- and these seats are live
    pub lives : (seat : ℕ) → IsSeatOf t.seats seat
        → flag_of live seat ≡ is_live (moves_of past) seat
