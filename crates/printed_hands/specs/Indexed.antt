-- The index of a list of names.
use Rattle.std.specs.Prelude.{◌≡◌, ℕ, List, bytes_eq}
use Rattle.std.specs.BTreeMap.{get_by_text}
use Rattle.std.specs.List.{position_from}
use Rattle.printed_hands.specs.declared.index.NameIndex.{NameIndex}

-- an index finds each name at its first place among these names, and finds no other name
abbrev pub AreIndexed : NameIndex → List (List ℕ) → Type 0
AreIndexed index names =
    (asked : List ℕ) → get_by_text index.places asked ≡ position_from (bytes_eq asked) 0 names
