use Rattle.std.proofs.Common.{◌≡◌, ◌≤◌, ◌++◌, drop, if◌then◌else◌}
use Rattle.card_set.specs.declared.card.Slot.TheVariants.{Known}
use Rattle.card_set.specs.Row.{cards_of}
use Rattle.play_event.specs.NameMatching.{without_name}
use Rattle.card_places.proofs.names.without_card.Given as goal

abbrev pub invariant-loop-name : goal.invariant-loop-name
invariant-loop-name l =
    (cards_of l.left ++ (if l.found then drop l.name-index l.name-items else without_name (Known l.card) (drop l.name-index l.name-items)) ≡ without_name (Known l.card) (cards_of l.names))
    × (l.left.len ≤ l.name-index)
