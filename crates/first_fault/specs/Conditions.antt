-- The first of some facts whose condition holds.
use Rattle.std.specs.Prelude.{Bool, if◌then◌else◌, List, [], ◌∷◌, Option, Some, None}

-- the fact of the first condition that holds
abbrev pub first_where : {A : Type 0} → List (Bool × A) → Option A
first_where [] = None
first_where ((condition, fact) ∷ rest) = if condition then Some fact else first_where rest
