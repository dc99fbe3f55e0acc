-- The events so far are made, and one more comes nearer to the limits of a hand.
use Rattle.std.proofs.Common.{◌-◌, length}
use Rattle.hand_gen.specs.MadeTo.{IsMadeTo}
use Rattle.hand_gen.proofs.hand.script_of.Given as goal

abbrev pub invariant-loop-script : goal.invariant-loop-script
invariant-loop-script g l =
    IsMadeTo l.setup l.initial.stock l.hand.betting l.hand.cards l.script l.stock

abbrev pub decreases-loop-script : goal.decreases-loop-script
decreases-loop-script g l = 4352 - length l.script
