-- The hands so far are replayed.
use Rattle.std.proofs.Common.{string_bytes, take}
use Rattle.poker_cli.specs.Each.{AreReplayedAlone}
use Rattle.poker_cli.proofs.each_replay.replay_each.Given as goal

abbrev pub invariant-loop-index : goal.invariant-loop-index
invariant-loop-index l = AreReplayedAlone 1 (take l.index l.records) (string_bytes l.text)
