-- What the code has read, as the definitions see it.
use Rattle.std.specs.Prelude.{List, take, ℤ}
use Rattle.hand_canon.specs.declared.record.NetRow.{NetRow}
use Rattle.acpc_reading.specs.declared.betting.ReadBetting.{ReadBetting}
use Rattle.acpc_reading.specs.Betting.{Bets}

-- the betting so far
abbrev pub bets_in : ReadBetting → Bets
bets_in betting =
    record {
      steps = betting.steps.items;
      round = betting.round;
      moves = betting.moves;
      file_moves = betting.file_moves;
    }

-- the values of the seats of a row
abbrev pub nets_in : NetRow → List ℤ
nets_in row = take row.seats row.nets
