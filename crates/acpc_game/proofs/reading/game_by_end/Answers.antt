use Rattle.std.proofs.Common.{sym, map}
use Rattle.acpc_game.specs.Entries.{entry_said}
use Rattle.acpc_game.proofs.Played.{playable}
use Rattle.acpc_game.proofs.reading.game_by_end.Goals as goal

pub build-requires-clause-playable : goal.build-requires-clause-playable
build-requires-clause-playable c = playable (map entry_said c.args.entries.now) (sym c.in-None.ensures)
