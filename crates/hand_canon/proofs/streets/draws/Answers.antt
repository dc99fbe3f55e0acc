use Rattle.std.proofs.Common.{refl, arith}
use Rattle.play_event.specs.Games.{game_of}
use Rattle.hand_canon.proofs.StreetRows.{draws_are, streets_few}
use Rattle.hand_canon.proofs.streets.draws.Goals as goal

pub returns-then-street-table : goal.returns-then-street-table
returns-then-street-table c =
    draws_are (game_of c.args.code) c.table_of-table.result.rows _ _ c.table_of-table.ensures.rows refl
    (omega (arith, c.requires, c.if-street-table.true, c.table_of-table.ensures.values.streets_is, streets_few c.args.code))
