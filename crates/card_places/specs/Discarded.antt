-- What changes when a seat discards.
use Rattle.std.specs.Prelude.{◌≡◌, ◌≢◌, ◌⊎◌, ℕ, ◌≤◌, true, List, filter, length}
use Rattle.card_set.specs.declared.card.Slot.{Slot}
use Rattle.card_set.specs.Known.{known_among}
use Rattle.play_event.specs.declared.code.Code.{Code}
use Rattle.play_event.specs.CardReasons.{has_no_place}
use Rattle.play_event.specs.NameMatching.{after_discard, blanks_in}
use Rattle.play_event.specs.Places.{Place, is_held_by}
use Rattle.card_places.specs.declared.card_state.CardState.{CardState}
use Rattle.card_places.specs.declared.search.NamedCards.{NamedCards}
use Rattle.card_places.specs.Drawn.{has_drawn_at, named_at}
use Rattle.card_places.specs.Placed.{placed}
use Rattle.card_places.specs.Searches.{has_unplaced_name, searched}

-- a search is that of a discard: what it makes of the places, and whether some names find no place
pub record IsDiscardSearch (code : Code) (s : NamedCards) (placed : List Place) (on seat : ℕ)
    (cards : List Slot) : Type 0 where
  pub after : searched code s placed ≡ after_discard on seat cards placed
  pub lacking :
      has_unplaced_name code s placed
      ≡ has_no_place (filter (is_held_by seat) placed) (known_among cards) (blanks_in cards)

-- a seat drew and discarded these cards, and nothing else changed
pub record IsDiscarded (old new : CardState) (on seat : ℕ) (cards : List Slot) : Type 0 where
  pub places : placed new.places ≡ after_discard on seat cards (placed old.places)
  pub table : new.table ≡ old.table
  pub seats : new.seats ≡ old.seats
  pub shown : new.shown ≡ old.shown
  pub mucked : new.mucked ≡ old.mucked
  pub drew : has_drawn_at new.draws on seat ≡ true
  pub named : named_at new.draws on seat ≡ length cards
  pub others : (street number : ℕ) → 1 ≤ number → number ≤ 10 → (street ≢ on) ⊎ (number ≢ seat)
      → has_drawn_at new.draws street number ≡ has_drawn_at old.draws street number
  pub others_named : (street number : ℕ) → 1 ≤ number → number ≤ 10
      → (street ≢ on) ⊎ (number ≢ seat)
      → named_at new.draws street number ≡ named_at old.draws street number
