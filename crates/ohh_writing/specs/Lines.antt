-- The bytes for plays: one line of compact JSON per play, and an empty line between two.
use Rattle.std.specs.Prelude.{◌≡◌, ℕ, ◌+◌, ◌==◌, if◌then◌else◌, List, [], ◌∷◌, ◌++◌, Some}
use Rattle.std.specs.Str.{IsUtf8}
use Rattle.serde_json.specs.Read.{read}
use Rattle.serde_json.specs.Written.{compact_text}
use Rattle.hand_canon.specs.declared.trace.Play.{Play}
use Rattle.ohh_members.specs.declared.dialect.Dialect.{Dialect}
use Rattle.ohh_writing.specs.Tree.{hand_tree}

-- the text of the hand at this place of its file, from 0
abbrev pub hand_text : Dialect → ℕ → Play → List ℕ
hand_text dialect place play = compact_text (hand_tree dialect place play)

-- an empty line, if other hands follow
abbrev pub empty_line_before : List Play → List ℕ
empty_line_before [] = []
empty_line_before (next ∷ rest) = 10 ∷ []

-- an empty line after this number of hands, if there are any
abbrev pub empty_line_behind : ℕ → List ℕ
empty_line_behind place = if place == 0 then [] else 10 ∷ []

-- the lines of plays; the first is at this place
abbrev pub lines_from : Dialect → ℕ → List Play → List ℕ
lines_from dialect place [] = []
lines_from dialect place (play ∷ rest) =
    hand_text dialect place play
    ++ (10 ∷ (empty_line_before rest ++ lines_from dialect (place + 1) rest))

-- the lines of plays
abbrev pub lines : Dialect → List Play → List ℕ
lines dialect plays = lines_from dialect 0 plays

-- the text of the hand at this place of its file is one that JSON reads as the tree of the hand
pub record IsTextOf (dialect : Dialect) (place : ℕ) (play : Play) : Type 0 where
  pub text : IsUtf8 (hand_text dialect place play)
  pub tree : read (hand_text dialect place play) ≡ Some (hand_tree dialect place play)

-- the text of each play reads as its tree; the first play is at this place
abbrev pub AreRead : Dialect → ℕ → List Play → Type 0
AreRead dialect place [] = Unit {0}
AreRead dialect place (play ∷ rest) = IsTextOf dialect place play × AreRead dialect (place + 1) rest

-- bytes spell plays: they are their lines, and each line reads as the tree of its hand
pub record Spells (dialect : Dialect) (plays : List Play) (bytes : List ℕ) : Type 0 where
  pub lines : bytes ≡ lines dialect plays
  pub trees : AreRead dialect 0 plays
