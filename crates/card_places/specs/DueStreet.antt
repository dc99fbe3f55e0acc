-- The street whose cards are due.
use Rattle.std.specs.Prelude.{ℕ, Option, Some, None}
use Rattle.play_event.specs.declared.reason.Due.{Due}
use Rattle.play_event.specs.declared.reason.Due.TheVariants as dues

-- the street of a deal or a draw
abbrev pub due_street : Due → Option ℕ
due_street (dues.Deal on) = Some on
due_street (dues.Draw on) = Some on
due_street dues.BringIn = None
due_street dues.Move = None
due_street dues.Show = None
due_street dues.Over = None
