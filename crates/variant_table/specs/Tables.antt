-- What the table of a game contains.
use Rattle.std.specs.Prelude.{◌≡◌, ℕ, ◌-◌, false, [], ◌∷◌, map, slice_get, unwrap_or}
use Rattle.play_event.specs.Games.{Game}
use Rattle.play_event.specs.declared.street.Street.{Street}
use Rattle.variant_table.specs.declared.table.GameTable.{GameTable}
use Rattle.play_event.specs.declared.street.Size.TheVariants as sizes
use Rattle.variant_table.specs.Variants.{AreValuesOf}

-- past the last street: a street that deals nothing and draws nothing
abbrev pub no_street : Street
no_street = record { down = 0; up = 0; board = 0; draws = false; size = sizes.Least }

-- the street of a game with this number, from 1; past the last one, a street that deals nothing
abbrev pub street_at : Game → ℕ → Street
street_at game number = unwrap_or (slice_get game.streets (number - 1)) no_street

-- a table has the values of the game and its streets in order
pub record IsTableOf (game : Game) (table : GameTable) : Type 0 where
  pub values :
      AreValuesOf game table.split table.pick table.limit table.opener table.deck table.seats
      table.streets
  pub rows : table.rows ≡ map (street_at game) (1 ∷ 2 ∷ 3 ∷ 4 ∷ 5 ∷ [])
