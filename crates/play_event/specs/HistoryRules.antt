-- The rules of hand histories beyond those of the game.
use Rattle.std.specs.Prelude.{true, None}
use Rattle.play_event.specs.declared.setup.Rules.{Rules}
use Rattle.play_event.specs.declared.setup.Reopen.TheVariants as reopen

-- only a full raise reopens the betting, a seat may fold with nothing to call, and raises are not
-- capped
abbrev pub history_rules : Rules
history_rules = record { reopen = reopen.Full; free_fold = true; caps = None }
