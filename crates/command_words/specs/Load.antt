-- What the words of `load` ask for.
use Rattle.std.specs.Prelude.{if◌then◌else◌, Option, Some, None, option_and_then}
use Rattle.command_words.specs.Command.{Command, with_both}
use Rattle.command_words.specs.GivenOptions.{GivenOptions, no_option_given}
use Rattle.command_words.specs.Numbers.{hands_said, seed_said}
use Rattle.command_words.specs.Command as commands
use Rattle.command_words.specs.declared.notation.NotationName.{NotationName}

-- `load` takes --seed and --hands
abbrev pub load_asked : GivenOptions → Option (Command NotationName)
load_asked options =
    if no_option_given (record options { seed = None; hands = None })
    then with_both (λ seed hands. Some (commands.Load seed hands))
    (option_and_then seed_said options.seed) (option_and_then hands_said options.hands)
    else None
