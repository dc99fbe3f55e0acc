-- The places of the cards dealt so far.
use Rattle.std.specs.Prelude.{List, map, take}
use Rattle.play_event.specs.Places.{Place}
use Rattle.card_places.specs.declared.dealt_cards.DealtCards.{DealtCards}
use Rattle.card_places.specs.Plain.{place_of}

-- the places of the dealt cards, in the order of dealing
abbrev pub placed : DealtCards → List Place
placed p = map place_of (take p.count p.rows)
