-- The seats so far are playable.
use Rattle.showdown_split.specs.Playable.{ArePlayableTo}
use Rattle.library_table.proofs.playable.are_playable.Given as goal

abbrev pub invariant-loop-index : goal.invariant-loop-index
invariant-loop-index g l = ArePlayableTo l.index g.V.Award.HandOrder.HELD g.V.Variant.PICK l.hands l.board l.shown
