-- The fields that the code cuts, as lists.
use Rattle.std.specs.Prelude.{◌+◌, ◌<◌, ◌^◌, length}
use Rattle.acpc_reading.specs.declared.fields.Fields.{Fields}
use Rattle.acpc_reading.specs.Logs.{FieldsSaid}

-- the fields of a line with plain lists
abbrev pub fields_in : Fields → FieldsSaid
fields_in fields = record {
  state = fields.state.now;
  hand = fields.hand.now;
  betting = fields.betting.now;
  cards = fields.cards.now;
  values = fields.values.now;
  names = fields.names.now;
}

-- the fields are short enough that their byte positions can be counted
abbrev pub HasRoom : FieldsSaid → Type 0
HasRoom fields =
    length fields.state + length fields.hand + length fields.betting + length fields.cards
    + length fields.values + length fields.names
    < 2 ^ 63
