-- The orders of hands, and which of them each game pays by.
use Rattle.std.specs.Prelude.{ℕ, List}
use Rattle.card_set.specs.declared.card.Card.{Card}
use Rattle.play_event.specs.declared.code.Code.{Code}
use Rattle.play_event.specs.declared.code.Code.TheVariants as games
use Rattle.high_rank.specs.High as high
use Rattle.high_rank.specs.ShortDeck as short_deck
use Rattle.low_rank.specs.EightLow as eight_low
use Rattle.low_rank.specs.Razz as razz
use Rattle.low_rank.specs.DeuceSeven as deuce_seven
use Rattle.badugi_rank.specs.Badugi as badugi

-- an order of hands: the number of cards in a hand, which cards are a hand, and when one hand is
-- weaker than another
pub record Order : Type 1 where
  pub held : ℕ
  pub is_hand : List Card → Type 0
  pub is_weaker : List Card → List Card → Type 0

-- the high order: five cards
abbrev pub high_order : Order
high_order = record { held = 5; is_hand = high.IsHand; is_weaker = high.IsWeaker }

-- the high order of the short deck: five cards
abbrev pub short_deck_order : Order
short_deck_order = record { held = 5; is_hand = high.IsHand; is_weaker = short_deck.IsWeaker }

-- eight-or-better: five cards
abbrev pub eight_low_order : Order
eight_low_order = record { held = 5; is_hand = eight_low.IsHand; is_weaker = eight_low.IsWeaker }

-- the order of razz: five cards
abbrev pub razz_order : Order
razz_order = record { held = 5; is_hand = razz.IsHand; is_weaker = razz.IsWeaker }

-- deuce-to-seven: five cards
abbrev pub deuce_seven_order : Order
deuce_seven_order =
    record { held = 5; is_hand = deuce_seven.IsHand; is_weaker = deuce_seven.IsWeaker }

-- badugi: four cards
abbrev pub badugi_order : Order
badugi_order = record { held = 4; is_hand = badugi.IsHand; is_weaker = badugi.IsWeaker }

-- the order of hands that a game pays a pot by, or its first half
abbrev pub award_of : Code → Order
award_of games.FT = high_order
award_of games.NT = high_order
award_of games.NS = short_deck_order
award_of games.PO = high_order
award_of games.FO8 = high_order
award_of games.F7S = high_order
award_of games.F7S8 = high_order
award_of games.FR = razz_order
award_of games.N2L1D = deuce_seven_order
award_of games.F2L3D = deuce_seven_order
award_of games.FB = badugi_order

-- the order of hands that a game pays the second half by, if it splits pots; else the first order
-- again
abbrev pub second_of : Code → Order
second_of games.FO8 = eight_low_order
second_of games.F7S8 = eight_low_order
second_of code = award_of code
