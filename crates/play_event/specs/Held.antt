-- The cards that an owner has on the table: those that were dealt to it and not discarded or
-- folded.
use Rattle.std.specs.Prelude.{ℕ, Bool, ◌&&◌, List, map, filter, Option, is_none}
use Rattle.card_set.specs.declared.card.Slot.{Slot}
use Rattle.play_event.specs.Places.{Place, is_same_owner}

-- the card is on the table and belongs to this owner, a seat or the board
abbrev pub is_held : Option ℕ → Place → Bool
is_held owner place = is_same_owner place.owner owner && is_none place.gone_after

-- the cards of an owner on the table, in the order of dealing
abbrev pub held_slots : Option ℕ → List Place → List Slot
held_slots owner placed = map (λ place. place.slot) (filter (is_held owner) placed)
