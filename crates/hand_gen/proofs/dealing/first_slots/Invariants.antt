-- The slots so far are the first ones.
use Rattle.std.proofs.Common.{◌≡◌, ◌≤◌, take}
use Rattle.card_set.specs.Row.{slots_of}
use Rattle.hand_gen.proofs.dealing.first_slots.Given as goal

abbrev pub invariant-loop-slot : goal.invariant-loop-slot
invariant-loop-slot l = (slots_of l.first ≡ take l.slot-index l.slot-items) × (l.first.len ≤ l.slot-index)
