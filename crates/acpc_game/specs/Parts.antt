-- Texts cut at a sign: a file at newlines, a line at colons, a field at bars and strokes.
use Rattle.std.specs.Prelude.{ℕ, ◌-◌, ◌==◌, Bool, bytes_eq, if◌then◌else◌, List, [], ◌∷◌, length, take, map, slice_index}
use Rattle.std.specs.List.{slice_split}

-- the parts into which a sign divides a text
abbrev pub parts_of : ℕ → List ℕ → List (List ℕ)
parts_of sign text = slice_split (λ b. b == sign) text

-- a line without the carriage return at its end, if there is one
abbrev pub without_return : List ℕ → List ℕ
without_return line =
    if slice_index line (length line - 1) == 13 then take (length line - 1) line else line

-- parts, without the last one if it is empty
abbrev pub without_empty_end : List (List ℕ) → List (List ℕ)
without_empty_end [] = []
without_empty_end (part ∷ []) = if length part == 0 then [] else part ∷ []
without_empty_end (part ∷ next ∷ more) = part ∷ without_empty_end (next ∷ more)

-- the lines of a text; the last one may end without a newline
abbrev pub lines_of : List ℕ → List (List ℕ)
lines_of text = map without_return (without_empty_end (parts_of 10 text))

-- a text begins with these bytes
abbrev pub has_front : List ℕ → List ℕ → Bool
has_front front text = bytes_eq (take (length front) text) front
