-- What the words of `game` ask for.
use Rattle.std.specs.Prelude.{if◌then◌else◌, Option, None, option_map}
use Rattle.command_words.specs.GivenOptions.{GivenOptions, no_option_given}
use Rattle.command_words.specs.Notations.{notation_named}
use Rattle.command_words.specs.Command as commands
use Rattle.command_words.specs.Command.{Command}
use Rattle.command_words.specs.declared.notation.NotationName.{NotationName}

-- `game` takes --from, which may not be a log: a log has its game file already
abbrev pub game_asked : GivenOptions → Option (Command NotationName)
game_asked options =
    if no_option_given (record options { from = None })
    then option_map (λ from. commands.Game from) (notation_named options.from)
    else None
