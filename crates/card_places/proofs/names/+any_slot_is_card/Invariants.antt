use Rattle.std.proofs.Common.{length}
use Rattle.card_places.proofs.names.+any_slot_is_card.Given as goal

abbrev pub decreases-any_slot_is_card : goal.decreases-any_slot_is_card
decreases-any_slot_is_card l = length l.slots.now
