-- What changes when cards are dealt.
use Rattle.std.specs.Prelude.{◌≡◌, ℕ, List, Option}
use Rattle.card_set.specs.declared.card.Slot.{Slot}
use Rattle.play_event.specs.Places.{after_deal}
use Rattle.card_places.specs.declared.card_state.CardState.{CardState}
use Rattle.card_places.specs.Placed.{placed}

-- an owner was dealt the cards on the street, and nothing else changed
pub record IsDealt (old new : CardState) (owner : Option ℕ) (street : ℕ) (cards : List Slot) : Type
    0 where
  pub places : placed new.places ≡ after_deal old.table.code owner street cards (placed old.places)
  pub table : new.table ≡ old.table
  pub seats : new.seats ≡ old.seats
  pub draws : new.draws ≡ old.draws
  pub shown : new.shown ≡ old.shown
  pub mucked : new.mucked ≡ old.mucked
