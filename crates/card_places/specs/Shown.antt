-- What changes when a seat shows or mucks.
use Rattle.std.specs.Prelude.{◌≡◌, ◌≢◌, ℕ, ◌≤◌, ◌||◌, true, List}
use Rattle.card_set.specs.declared.card.Card.{Card}
use Rattle.chip_ledger.specs.LiveRow.{flag_of}
use Rattle.play_event.specs.declared.code.Code.{Code}
use Rattle.play_event.specs.CardReasons.{is_show_of_others}
use Rattle.play_event.specs.NameMatching.{after_show, is_show_of_all}
use Rattle.play_event.specs.Places.{Place}
use Rattle.card_places.specs.Covered.{covered}
use Rattle.card_places.specs.declared.card_state.CardState.{CardState}
use Rattle.card_places.specs.declared.search.NamedCards.{NamedCards}
use Rattle.card_places.specs.Placed.{placed}
use Rattle.card_places.specs.Searches.{has_unplaced_name, has_left_out_card, searched}

-- a search is that of a show: what it makes of the places, and whether it names other cards than
-- they have
pub record IsShowSearch (code : Code) (s : NamedCards) (placed : List Place) (seat : ℕ)
    (cards : List Card) : Type 0 where
  pub after : searched code s placed ≡ after_show code seat cards placed
  pub others :
      (has_unplaced_name code s placed || has_left_out_card code s placed)
      ≡ is_show_of_others (covered code seat (is_show_of_all placed seat cards) placed) cards

-- a seat showed these cards, and nothing else changed
pub record IsShown (old new : CardState) (seat : ℕ) (cards : List Card) : Type 0 where
  pub places : placed new.places ≡ after_show old.table.code seat cards (placed old.places)
  pub table : new.table ≡ old.table
  pub seats : new.seats ≡ old.seats
  pub draws : new.draws ≡ old.draws
  pub mucked : new.mucked ≡ old.mucked
  pub shown : flag_of new.shown seat ≡ true
  pub others : (n : ℕ) → 1 ≤ n → n ≢ seat → flag_of new.shown n ≡ flag_of old.shown n

-- a seat mucked, and nothing else changed
pub record IsMucked (old new : CardState) (seat : ℕ) : Type 0 where
  pub places : new.places ≡ old.places
  pub table : new.table ≡ old.table
  pub seats : new.seats ≡ old.seats
  pub draws : new.draws ≡ old.draws
  pub shown : new.shown ≡ old.shown
  pub mucked : flag_of new.mucked seat ≡ true
  pub others : (n : ℕ) → 1 ≤ n → n ≢ seat → flag_of new.mucked n ≡ flag_of old.mucked n
