-- The notations by their names.
use Rattle.std.specs.Prelude.{ℕ, if◌then◌else◌, List, codes, Option, Some, None, option_and_then}
use Rattle.std.specs.Str.{bytes_eq}
use Rattle.command_words.specs.declared.notation.NotationName.{NotationName}
use Rattle.command_words.specs.declared.notation.NotationName.TheVariants as names
use Rattle.command_words.specs.declared.notation.PlainNotation.TheVariants as notations

-- the notation with this name
abbrev pub notation_of_name : List ℕ → Option NotationName
notation_of_name name =
    if bytes_eq name (codes "phh") then Some (names.Plain notations.Phh)
    else if bytes_eq name (codes "ohh") then Some (names.Plain notations.Ohh)
    else if bytes_eq name (codes "ohh-to") then Some (names.Plain notations.OhhTo)
    else if bytes_eq name (codes "acpc") then Some names.Acpc
    else None

-- the given notation, if there is one
abbrev pub notation_named : Option (List ℕ) → Option NotationName
notation_named name = option_and_then notation_of_name name
