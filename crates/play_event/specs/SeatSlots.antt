-- The up-cards and the held cards of a seat, in their rows.
use Rattle.std.specs.Prelude.{ℕ, ◌-◌, List}
use Rattle.card_set.specs.declared.card.Slot.{Slot}
use Rattle.play_event.specs.declared.up_cards.UpRow.{UpRow}
use Rattle.play_event.specs.declared.hands.HandRow.{HandRow}
use Rattle.play_event.specs.SlotRows.{slots_at}

-- the up-cards of seat number n
abbrev pub ups_of : UpRow → ℕ → List Slot
ups_of row n = slots_at row.cards (n - 1)

-- the held cards of seat number n
abbrev pub slots_of_hand : HandRow → ℕ → List Slot
slots_of_hand row n = slots_at row.hands (n - 1)
