use Rattle.std.proofs.Common.{◌≡◌, ◌∷◌, ◌++◌, length, map, take}
use Rattle.play_event.specs.PackedForm.{slot_byte}
use Rattle.play_event.proofs.packing.pack_slots.Given as goal

-- the bytes of the slots so far come after their count
abbrev pub invariant-loop-slot : goal.invariant-loop-slot
invariant-loop-slot l = l.packed ≡ l.fn.packed ++ length l.slots ∷ map slot_byte (take l.slot-index l.slots)
