-- A text as letters, each with the digits after it.
use Rattle.std.specs.Prelude.{ℕ, if◌then◌else◌, List, [], ◌∷◌}
use Rattle.std.specs.Char.{is_digit}

-- a letter, and the digits after it
abbrev pub Letter : Type 0
Letter = ℕ × List ℕ

-- one more byte in front: a digit, or a letter that takes the digits so far
abbrev pub onto : ℕ → List ℕ × List Letter → List ℕ × List Letter
onto b scanned =
    if is_digit b 10 then (b ∷ scanned.0, scanned.1) else ([], (b, scanned.0) ∷ scanned.1)

-- the digits at the front of a text, and then its letters with their digits
abbrev pub scan : List ℕ → List ℕ × List Letter
scan [] = ([], [])
scan (b ∷ rest) = onto b (scan rest)
