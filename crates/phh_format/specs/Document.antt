-- The one document for plays: a single hand is its table, and several are under the keys 1, 2 and
-- so on.
use Rattle.std.specs.Prelude.{◌≡◌, ℕ, ◌+◌, List, [], ◌∷◌, Some}
use Rattle.std.specs.Fmt.{decimal}
use Rattle.std.specs.Str.{IsUtf8}
use Rattle.toml.specs.Data.{Members, no_members, table}
use Rattle.toml.specs.Parse.{parse_document}
use Rattle.hand_canon.specs.declared.trace.Play.{Play}
use Rattle.phh_format.specs.Members.{Field, table_of}
use Rattle.phh_format.specs.HandFields.{hand_fields}

-- the table of the hand at this place of its file, from 0
unfoldable pub hand_table : ℕ → Play → Members
hand_table place play = table_of (hand_fields place play)

-- hands under their numbers; the first is at this place, from 0
abbrev pub numbered_hands : ℕ → List Play → List Field
numbered_hands place [] = []
numbered_hands place (play ∷ rest) =
    (decimal (place + 1), Some (table (hand_table place play))) ∷ numbered_hands (place + 1) rest

-- the document of plays
abbrev pub document : List Play → Members
document [] = no_members
document (play ∷ []) = hand_table 0 play
document (play ∷ next ∷ rest) = table_of (numbered_hands 0 (play ∷ next ∷ rest))

-- bytes spell plays: they are a text that TOML reads as the document of the plays
pub record Spells (plays : List Play) (bytes : List ℕ) : Type 0 where
  pub text : IsUtf8 bytes
  pub table : parse_document bytes ≡ Some (document plays)
