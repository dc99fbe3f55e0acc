-- A dealt card as a plain value.
use Rattle.play_event.specs.Places.{Place}
use Rattle.card_places.specs.declared.dealt_card.DealtCard.{DealtCard}
use Rattle.chip_ledger.specs.SeatsSaid.{seat_said}

-- a dealt card as a place
abbrev pub place_of : DealtCard → Place
place_of l =
    record {
      owner = seat_said l.owner;
      street = l.street;
      index = l.index;
      number = l.number;
      slot = l.slot;
      past_deck = l.past_deck;
      gone_after = l.gone_after;
      discarded = l.discarded;
    }
