-- What a discard or a show changes in a place.
use Rattle.std.specs.Prelude.{◌≡◌, ℕ, ◌+◌, List, drop, Option, Some, None}
use Rattle.card_set.specs.declared.card.Card.{Card}
use Rattle.play_event.specs.declared.code.Code.{Code}
use Rattle.play_event.specs.Games.{hole_cards_on, board_cards_on}
use Rattle.play_event.specs.Streets.{down_cards_on, up_cards_on, has_draw}
use Rattle.play_event.specs.declared.street.Street.{Street}
use Rattle.play_event.specs.Places.{Place}
use Rattle.play_event.specs.NameMatching as naming
use Rattle.play_event.specs.NameMatching.{discarded_now}
use Rattle.card_places.specs.declared.finding.FoundPlace.{FoundPlace}
use Rattle.card_places.specs.Plain.{place_of}

-- a card that is discarded on a street is gone after `count` dealt cards; a card that is shown
-- stays
abbrev pub mark_by : Option ℕ → ℕ → Place → Place
mark_by (Some street) count place = discarded_now street count place
mark_by None count place = place

-- the code found what the definitions find
pub record IsFound (code : FoundPlace) (found : naming.MatchedCard) (others : List Card)
    : Type 0 where
  pub place : place_of code.card ≡ found.place
  pub others_left : drop code.taken others ≡ found.others
  pub blanks : code.blanks ≡ found.blanks

-- a street deals and draws as the street with this number of the game does
pub record IsStreetOf (code : Code) (number : ℕ) (street : Street) : Type 0 where
  pub down : street.down ≡ down_cards_on code number
  pub up : street.up ≡ up_cards_on code number
  pub hole : street.down + street.up ≡ hole_cards_on code number
  pub board : street.board ≡ board_cards_on code number
  pub draws : street.draws ≡ has_draw code number
