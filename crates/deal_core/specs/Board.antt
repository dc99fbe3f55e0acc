-- The cards of the board.
use Rattle.std.specs.Prelude.{List, [], ◌∷◌, ◌++◌}
use Rattle.card_set.specs.declared.card.Card.{Card}
use Rattle.play_event.specs.Past.{Past, Dealt, Boarded, Moved, Discarded, Shown, Mucked}

-- the cards that were dealt to the board, in the order of dealing
abbrev pub board_cards : Past → List Card
board_cards [] = []
board_cards (Boarded street cards ∷ before) = board_cards before ++ cards
board_cards (Dealt street seat cards ∷ before) = board_cards before
board_cards (Moved move ∷ before) = board_cards before
board_cards (Discarded street seat cards ∷ before) = board_cards before
board_cards (Shown street seat cards ∷ before) = board_cards before
board_cards (Mucked street seat ∷ before) = board_cards before
