-- What a completion is, and when no two in a list are the same.
use Rattle.std.specs.Prelude.{◌≡◌, true, List, [], ◌∷◌, length}
use Rattle.card_set.specs.declared.card.Card.{Card}
use Rattle.card_set.specs.CardSet.{AreSameCards, is_one_of}
use Rattle.card_set.specs.Different.{AllDifferent, Every}
use Rattle.hand_order.specs.Choices.{IsAmong}
use Rattle.play_event.specs.declared.code.Code.{Code}
use Rattle.hand_equity.specs.Equity.{lacking}
use Rattle.hand_equity.specs.Undealt.{Standing, rest_of}

-- different cards of the rest, as many as the board is missing
pub record IsCompletion (code : Code) (standing : Standing) (cards : List Card) : Type 0 where
  pub long : length cards ≡ lacking code standing
  pub different : AllDifferent cards
  pub of_rest : Every (λ card. is_one_of card (rest_of code standing) ≡ true) cards

-- no two of the lists have the same cards
abbrev pub AreApart : List (List Card) → Type 0
AreApart [] = Unit {0}
AreApart (first ∷ others) =
    ((other : List Card) → IsAmong other others → ¬ (AreSameCards first other))
    × AreApart others
