-- The names of the streets of a hand.
use Rattle.std.specs.Prelude.{ℕ, List, codes}
use Rattle.ohh_members.specs.declared.street.StreetName.{StreetName}
use Rattle.ohh_members.specs.declared.street.StreetName.TheVariants as streets

-- the name of a street
abbrev pub street_name : StreetName → List ℕ
street_name streets.Preflop = codes "Preflop"
street_name streets.Flop = codes "Flop"
street_name streets.Turn = codes "Turn"
street_name streets.River = codes "River"
street_name streets.Showdown = codes "Showdown"
