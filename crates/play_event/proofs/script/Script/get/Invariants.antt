use Rattle.std.proofs.Common.{◌≡◌, drop}
use Rattle.play_event.proofs.script.Script.get.Given as goal

-- the cursor has given this number of events
abbrev pub invariant-loop : goal.invariant-loop
invariant-loop l = l.cursor ≡ drop l.counter l.self
