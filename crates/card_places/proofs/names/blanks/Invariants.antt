use Rattle.std.proofs.Common.{◌≡◌, ◌≤◌, take, count_by}
use Rattle.card_set.specs.Known.{hides_card}
use Rattle.card_places.proofs.names.blanks.Given as goal

abbrev pub invariant-loop-slot : goal.invariant-loop-slot
invariant-loop-slot l = (l.count ≡ count_by hides_card (take l.slot-index l.slots)) × (l.count ≤ l.slot-index)
