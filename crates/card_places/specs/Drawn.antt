-- Who drew on which street.
use Rattle.std.specs.Prelude.{ℕ, ◌+◌, ◌-◌, ◌*◌, Bool, false, slice_index, slice_index_or}
use Rattle.card_places.specs.declared.draws.Draws.{Draws}

-- the seat drew on the street
abbrev pub has_drawn_at : Draws → ℕ → ℕ → Bool
has_drawn_at d street seat = slice_index_or d.drew (10 * street + seat - 1) false

-- the number of cards that the seat discarded on the street
abbrev pub named_at : Draws → ℕ → ℕ → ℕ
named_at d street seat = slice_index d.named (10 * street + seat - 1)
