-- The points are those after the events that are given.
use Rattle.std.proofs.Common.{rules, ◌∙◌}
use Rattle.command_words.specs.Requests.{file_given, options_in}
use Rattle.command_words.proofs.options.command.Goals as goal

pub returns : goal.returns
returns c = c.ask_for_points.ensures (file_given (options_in c.args.options)) ∙ search rules
