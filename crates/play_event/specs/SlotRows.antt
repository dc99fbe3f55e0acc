-- What rows of up-cards and of held cards have for each seat.
use Rattle.std.specs.Prelude.{ℕ, List, [], slice_get}
use Rattle.std.specs.Option.{option_map_or}
use Rattle.card_set.specs.declared.card.Slot.{Slot}
use Rattle.card_set.specs.declared.row.SlotRow.{SlotRow}
use Rattle.card_set.specs.Row.{slots_of}

-- the cards at an index of the row, and none past its end
abbrev pub slots_at : List SlotRow → ℕ → List Slot
slots_at rows index = option_map_or slots_of (slice_get rows index) []
