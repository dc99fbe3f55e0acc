-- The places that a discard or a show applies to, and the places after it.
use Rattle.std.specs.Prelude.{ℕ, Bool, List, filter}
use Rattle.card_set.specs.declared.card.Card.{Card}
use Rattle.play_event.specs.declared.code.Code.{Code}
use Rattle.play_event.specs.NameMatching.{after_matching, can_be_named, unmatched_names}
use Rattle.play_event.specs.Places.{Place}

-- the places that a discard or show applies to: all that the seat holds, or only those face down
abbrev pub covered : Code → ℕ → Bool → List Place → List Place
covered code seat all placed = filter (can_be_named code seat all) placed

-- the places after these names and blanks were matched with the places that the event applies to
abbrev pub after_named : Code → ℕ → Bool → (Place → Place) → List Card → ℕ → List Place → List Place
after_named code seat all mark names blanks placed =
    after_matching (can_be_named code seat all) mark names
    (unmatched_names (covered code seat all placed) names) blanks placed
