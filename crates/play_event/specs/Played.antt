-- What the rows of a trace say: moves and dealt cards, with plain numbers for seats.
use Rattle.std.specs.Prelude.{◌≡◌}
use Rattle.std.specs.Option.{option_map}
use Rattle.play_event.specs.declared.played.Act as rows
use Rattle.play_event.specs.declared.played.Act.TheVariants as acts
use Rattle.play_event.specs.declared.played.Move as moves
use Rattle.play_event.specs.declared.played.Place as places
use Rattle.play_event.specs.Past.{Act, Folded, Called, Raised, BroughtIn}
use Rattle.play_event.specs.Trace.{TracedMove, TracedPlace}

-- what a seat did
abbrev pub act_said : rows.Act → Act
act_said acts.Fold = Folded
act_said acts.Call = Called
act_said acts.Raise = Raised
act_said acts.BringIn = BroughtIn

-- a move of the trace
abbrev pub move_said : moves.Move → TracedMove
move_said move =
    record {
      street = move.street;
      seat = move.seat.number;
      act = act_said move.act;
      from = move.from;
      to = move.to;
      price = move.price;
      closed = move.closed;
      unit_to = move.unit_to;
    }

-- a row says of a dealt card: whose it is, its street, the card, if it is known, and the draw that
-- discarded it
pub record IsPlace (row : places.Place) (place : TracedPlace) : Type 0 where
  pub owner : option_map (λ seat. seat.number) row.owner ≡ place.owner
  pub street : row.street ≡ place.street
  pub slot : row.slot ≡ place.slot
  pub gone : row.gone ≡ place.discarded
