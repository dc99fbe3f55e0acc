use Rattle.std.proofs.Common.{◌≡◌, ◌≤◌, take}
use Rattle.card_set.specs.Known.{known_slots}
use Rattle.card_set.specs.Row.{slots_of}
use Rattle.card_places.proofs.names.slots.Given as goal

abbrev pub invariant-loop-card : goal.invariant-loop-card
invariant-loop-card l = (slots_of l.slots ≡ known_slots (take l.card-index l.card-items)) × (l.slots.len ≤ l.card-index)
