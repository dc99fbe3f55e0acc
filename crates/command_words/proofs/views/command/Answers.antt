-- A seat of a log.
use Rattle.std.proofs.Common.{rules, ◌∙◌}
use Rattle.command_words.specs.Requests.{file_given, options_in}
use Rattle.command_words.proofs.views.command.Goals as goal

pub returns : goal.returns
returns c = c.ask_for_views.ensures (file_given (options_in c.args.options)) ∙ search rules
