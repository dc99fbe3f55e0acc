-- The words of a text, separated by spaces.
use Rattle.std.specs.List.{slice_split}
use Rattle.std.specs.Prelude.{Bool, List, filter, length, nat_lt, ℕ, ◌==◌}

-- the sign that separates words: a space
abbrev pub is_space : ℕ → Bool
is_space sign = sign == 32

-- the words of a text
abbrev pub words_of : List ℕ → List (List ℕ)
words_of text = filter (λ part. nat_lt 0 (length part)) (slice_split is_space text)
