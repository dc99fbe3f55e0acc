use Rattle.std.proofs.Common.{◌≡◌, map, take}
use Rattle.card_set.specs.Row.{slots_of}
use Rattle.play_event.specs.PackedReading.{slot_of}
use Rattle.play_event.proofs.unpacking.read_slots.Given as goal

-- the row has the slots of the numbers so far
abbrev pub invariant-loop-number : goal.invariant-loop-number
invariant-loop-number l = record {
  slots : slots_of l.row ≡ map slot_of (take l.number-index l.numbers);
  len : l.row.len ≡ l.number-index;
}
