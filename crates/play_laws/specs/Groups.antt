-- What an owner was dealt, and changes of a place that keep its owner and its street.
use Rattle.std.specs.Prelude.{◌≡◌, ℕ, Option, Some, None, List, [], ◌∷◌}
use Rattle.play_event.specs.Dealing.{hole_cards_dealt, board_cards_dealt}
use Rattle.play_event.specs.Past.{Past}
use Rattle.play_event.specs.Places.{Place}

-- a place still has its owner and its street
pub record IsStill (old new : Place) : Type 0 where
  pub owner : new.owner ≡ old.owner
  pub street : new.street ≡ old.street

-- all places still have theirs, in order
abbrev pub AreStill : List Place → List Place → Type 0
AreStill [] [] = Unit {0}
AreStill [] (new ∷ news) = ⊥
AreStill (old ∷ olds) [] = ⊥
AreStill (old ∷ olds) (new ∷ news) = IsStill old new × AreStill olds news

-- the cards of a street that an owner was dealt
abbrev pub cards_dealt : Past → ℕ → Option ℕ → ℕ
cards_dealt past street (Some seat) = hole_cards_dealt past street seat
cards_dealt past street None = board_cards_dealt past street
