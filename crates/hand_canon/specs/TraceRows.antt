-- What the rows of a trace say, with plain numbers for seats.
use Rattle.std.specs.Prelude.{map, option_map}
use Rattle.chip_ledger.specs.LiveRow.{flagged}
use Rattle.chip_ledger.specs.PotRow.{plain_pots}
use Rattle.chip_ledger.specs.SeatRow.{amount_of}
use Rattle.play_event.specs.declared.played.Place.{Place}
use Rattle.play_event.specs.Played.{move_said}
use Rattle.play_event.specs.Seats.{all_seats}
use Rattle.play_event.specs.Trace.{TracedPlace}
use Rattle.hand_canon.specs.declared.trace.Trace.{Trace}
use Rattle.play_event.specs.TraceCore.{TraceCore}

-- what a trace says of a dealt card
abbrev pub place_said : Place → TracedPlace
place_said row =
    record {
      owner = option_map (λ seat. seat.number) row.owner;
      street = row.street;
      slot = row.slot;
      discarded = row.gone;
    }

-- what a trace keeps, without the shares of its pots
abbrev pub core_said : Trace → TraceCore
core_said trace =
    record {
      places = map place_said trace.places;
      moves = map move_said trace.moves;
      shown = flagged trace.shown;
      mucked = flagged trace.mucked;
      pots = plain_pots trace.pots;
      returned = map (amount_of trace.pots.returned) (all_seats trace.setup);
    }
