-- The lines of all hands.
use Rattle.std.proofs.Common.{string_bytes}
use Rattle.printed_hands.specs.Steps.{replay_lines}
use Rattle.poker_cli.proofs.PrintedLines.{none_printed, replay_is}
use Rattle.poker_cli.proofs.replay.replay_text.Goals as goal

pub take_plays-requires : goal.take_plays-requires
take_plays-requires c = none_printed replay_lines (string_bytes c.new.result) c.new.ensures.bytes

pub returns-clause-said : goal.returns-clause-said
returns-clause-said c = replay_is c.args.records (string_bytes c.in_ok-lines.lines.text) c.in_ok-lines.ensures.taken
