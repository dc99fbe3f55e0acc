-- The streets of a hand, in order.
use Rattle.std.specs.Prelude.{ℕ, Bool, true, false, bytes_eq, if◌then◌else◌, List, Option, Some, None}
use Rattle.std.specs.Option.{option_or}
use Rattle.ohh_members.specs.declared.street.StreetName.{StreetName}
use Rattle.ohh_members.specs.declared.street.StreetName.TheVariants as streets
use Rattle.ohh_members.specs.Streets.{street_name}

-- the street, if the text is its name
abbrev pub if_named : StreetName → List ℕ → Option StreetName
if_named street text = if bytes_eq text (street_name street) then Some street else None

-- The street that a text names after the last one, if it may come there: first preflop, then each
-- street after the one before it, or the showdown, after which none may come.
unfoldable pub street_after : Option StreetName → List ℕ → Option StreetName
street_after None text = if_named streets.Preflop text
street_after (Some streets.Preflop) text =
    option_or (if_named streets.Flop text) (if_named streets.Showdown text)
street_after (Some streets.Flop) text =
    option_or (if_named streets.Turn text) (if_named streets.Showdown text)
street_after (Some streets.Turn) text =
    option_or (if_named streets.River text) (if_named streets.Showdown text)
street_after (Some streets.River) text = if_named streets.Showdown text
street_after (Some streets.Showdown) text = None

-- the street deals cards to the board
abbrev pub has_board_cards : StreetName → Bool
has_board_cards streets.Preflop = false
has_board_cards streets.Flop = true
has_board_cards streets.Turn = true
has_board_cards streets.River = true
has_board_cards streets.Showdown = false
