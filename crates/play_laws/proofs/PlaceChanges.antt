-- How a place is changed by an event that deals nothing.
use Rattle.std.specs.Prelude.{◌≡◌, ℕ, List, [], ◌∷◌, Some, None}
use Rattle.play_event.specs.Places.{Place}

-- how a place is gone after an event that deals nothing: as before; discarded now by a seat on a
-- street; or folded now by a seat
pub data HowGone (count street seat : ℕ) (old new : Place) : Type 0 where
  stays : new.gone_after ≡ old.gone_after → new.discarded ≡ old.discarded → HowGone count street seat old new
  out : old.gone_after ≡ None → new.gone_after ≡ Some count → new.discarded ≡ street → old.owner ≡ Some seat → HowGone count street seat old new
  folds : old.gone_after ≡ None → new.gone_after ≡ Some count → new.discarded ≡ old.discarded → old.owner ≡ Some seat → HowGone count street seat old new

-- a place is unchanged except for how it is gone
pub record IsChange (count draw seat : ℕ) (old new : Place) : Type 0 where
  pub owner : new.owner ≡ old.owner
  pub street : new.street ≡ old.street
  pub number : new.number ≡ old.number
  pub past_deck : new.past_deck ≡ old.past_deck
  pub how : HowGone count draw seat old new

-- so do all places of a list
abbrev pub AreChanged : (count street seat : ℕ) → List Place → List Place → Type 0
AreChanged count street seat [] [] = Unit {0}
AreChanged count street seat [] (new ∷ news) = ⊥
AreChanged count street seat (old ∷ olds) [] = ⊥
AreChanged count street seat (old ∷ olds) (new ∷ news) = IsChange count street seat old new × AreChanged count street seat olds news
