-- One more hand is one of the game, and within the limits.
use Rattle.acpc_game.specs.Parts.{parts_of}
use Rattle.acpc_reading.specs.Views.{bets_in}
use Rattle.acpc_reading.proofs.MatchRecords.{one_more_hand}
use Rattle.acpc_reading.proofs.ScriptCounts.{within_limits, file_moves_after, file_moves_few}
use Rattle.acpc_reading.proofs.log.read_line.Goals as goal

pub record_of-requires-clause-within : goal.record_of-requires-clause-within
record_of-requires-clause-within c =
    within_limits c.args.game.now.no_limit c.args.game.now.stacks.seats c.args.betting.now.file_moves _ _ c.in_ok-fields.fields.betting.now (bets_in c.read_betting.new.betting) c.as_slice-steps.result.now (parts_of 47 c.in_ok-fields.fields.cards.now) c.in_ok-script.script
    c.requires.kept.few_moves c.in_ok-read_betting.ensures.ok c.as_slice-steps.ensures.value c.in_ok-script.ensures c.args.game.now.stacks.greatest

pub returns-clause-kept : goal.returns-clause-kept
returns-clause-kept c =
    one_more_hand c.args.game.now c.args.records.now c.push.new.self c.record_of.result c.args.betting.now.file_moves c.read_betting.new.betting.file_moves
    c.in_ok-push.ensures.pushed c.requires.few c.requires.kept c.record_of.ensures.game
    (rw c.record_of.ensures.script
    (file_moves_after c.args.game.now.no_limit c.args.game.now.stacks.seats c.args.betting.now.file_moves _ _ c.in_ok-fields.fields.betting.now (bets_in c.read_betting.new.betting) c.as_slice-steps.result.now (parts_of 47 c.in_ok-fields.fields.cards.now) c.in_ok-script.script
    c.requires.kept.few_moves c.in_ok-read_betting.ensures.ok c.as_slice-steps.ensures.value c.in_ok-script.ensures))
    (file_moves_few c.args.game.now.no_limit c.args.game.now.stacks.seats c.args.betting.now.file_moves _ _ c.in_ok-fields.fields.betting.now (bets_in c.read_betting.new.betting) c.as_slice-steps.result.now (parts_of 47 c.in_ok-fields.fields.cards.now) c.in_ok-script.script
    c.requires.kept.few_moves c.in_ok-read_betting.ensures.ok c.as_slice-steps.ensures.value c.in_ok-script.ensures)
