-- Amounts as text.
use Rattle.std.specs.Prelude.{ℕ, List, ◌∷◌, flat_map}
use Rattle.std.specs.Fmt.{decimal}

-- numbers in decimal, each after a space
abbrev pub spaced : List ℕ → List ℕ
spaced numbers = flat_map (λ number. 32 ∷ decimal number) numbers
