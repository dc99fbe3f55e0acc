-- The text is the output.
use Rattle.std.proofs.Common.{subst, sym, string_bytes}
use Rattle.poker_cli.specs.Each as each
use Rattle.poker_cli.specs.Each.{AreReplayedEach}
use Rattle.poker_cli.proofs.each_answer.answer_with_replay.Goals as goal

pub returns : goal.returns
returns c =
    subst (AreReplayedEach c.args.records.now) (sym c.done_with_text.ensures)
    (each.ReplayedEach (string_bytes c.in_ok-text.text) c.in_ok-text.ensures)
