use Rattle.std.proofs.Common.{◌≡◌, drop}
use Rattle.std.specs.List.{list_any}
use Rattle.card_set.specs.Known.{hides_card}
use Rattle.card_set.proofs.row.SlotRow.has_unknown.Given as goal

-- the slots that are left decide
abbrev pub invariant-loop-slot : goal.invariant-loop-slot
invariant-loop-slot l = list_any hides_card (drop l.slot-index l.slot-items) ≡ list_any hides_card l.slot-items
