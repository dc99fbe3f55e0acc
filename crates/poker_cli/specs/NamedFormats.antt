-- The notations that a command names: how they are read and written, with the game for logs.
use Rattle.acpc_game.specs.declared.game.Game.{Game}
use Rattle.command_words.specs.Command.{Command, with_notations}
use Rattle.command_words.specs.declared.notation.NotationName.{NotationName}
use Rattle.command_words.specs.declared.notation.NotationName.TheVariants as notations
use Rattle.command_words.specs.declared.notation.PlainNotation.{PlainNotation}
use Rattle.command_words.specs.declared.notation.PlainNotation.TheVariants as plain_notations
use Rattle.convert_core.specs.declared.format.Format.{Format}
use Rattle.convert_core.specs.declared.format.Format.TheVariants as readers
use Rattle.ohh_members.specs.declared.dialect.Dialect.TheVariants as dialects

-- the notation of this name, which needs no game
abbrev pub plain_format : PlainNotation → Format
plain_format plain_notations.Phh = readers.Phh
plain_format plain_notations.Ohh = readers.Ohh dialects.Added
plain_format plain_notations.OhhTo = readers.Ohh dialects.To

-- the notation of this name, with the game for logs
abbrev pub format_under : Game → NotationName → Format
format_under game (notations.Plain notation) = plain_format notation
format_under game notations.Acpc = readers.Acpc game

-- a command about notations that need no game
abbrev pub in_plain_formats : Command PlainNotation → Command Format
in_plain_formats command = with_notations plain_format command

-- a command, where logs are under a game
abbrev pub in_formats_under : Game → Command NotationName → Command Format
in_formats_under game command = with_notations (format_under game) command
