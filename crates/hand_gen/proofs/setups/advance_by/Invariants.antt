-- This number of draws was made.
use Rattle.std.proofs.Common.{◌≡◌}
use Rattle.hand_gen.specs.Draws.{number_after}
use Rattle.hand_gen.proofs.setups.advance_by.Given as goal

abbrev pub invariant-loop : goal.invariant-loop
invariant-loop l = l.number ≡ number_after l.counter l.initial.number
