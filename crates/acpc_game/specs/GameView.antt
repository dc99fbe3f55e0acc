-- Games of the code, as the definitions see them.
use Rattle.acpc_game.specs.declared.game.Game.{Game}
use Rattle.acpc_game.specs.GameFile.{GameSaid}
use Rattle.chip_ledger.specs.SeatRow.{amounts_in}

-- a game with its numbers as lists
abbrev pub game_in : Game → GameSaid
game_in game = record {
  no_limit = game.no_limit;
  stacks = amounts_in game.stacks;
  blinds = amounts_in game.blinds;
  small_raise = game.small_raise;
  big_raise = game.big_raise;
  caps = game.caps;
}
