-- What changes when a seat folds.
use Rattle.std.specs.Prelude.{◌≡◌, ℕ}
use Rattle.play_event.specs.Places.{after_fold}
use Rattle.card_places.specs.declared.card_state.CardState.{CardState}
use Rattle.card_places.specs.Placed.{placed}

-- the seat's cards are gone, and nothing else changed
pub record IsFolded (old new : CardState) (seat : ℕ) : Type 0 where
  pub places : placed new.places ≡ after_fold seat (placed old.places)
  pub table : new.table ≡ old.table
  pub seats : new.seats ≡ old.seats
  pub draws : new.draws ≡ old.draws
  pub shown : new.shown ≡ old.shown
  pub mucked : new.mucked ≡ old.mucked
