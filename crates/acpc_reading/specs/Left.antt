-- The rest of a field while it is read, if any is left.
use Rattle.std.specs.Prelude.{ℕ, ◌+◌, List, [], length, Option}
use Rattle.std.specs.Borrow.{Bor}
use Rattle.std.specs.Option.{option_map_or}
use Rattle.acpc_game.specs.Parts.{parts_of}

-- the parts of the rest of a field
abbrev pub parts_left : ℕ → Option (Bor (List ℕ)) → List (List ℕ)
parts_left sign rest = option_map_or (λ text. parts_of sign text.now) rest []

-- the length of the rest of a field, with the sign before it
abbrev pub len_left : Option (Bor (List ℕ)) → ℕ
len_left rest = option_map_or (λ text. 1 + length text.now) rest 0
