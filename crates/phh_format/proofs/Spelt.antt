-- For no plays nothing is written, and a text that reads as the document of plays spells them.
use Rattle.std.proofs.Common.{◌≡◌, List, [], ◌∷◌, length, refl, arith}
use Rattle.std.proofs.lemmas.Str.{IsUtf8-nil}
use Rattle.toml.proofs.OnLiterals.{toml_on_literals}
use Rattle.hand_canon.specs.declared.trace.Play.{Play}
use Rattle.phh_format.specs.Document.{Spells}

nothing_written : Spells [] []
unfolding toml_on_literals
nothing_written = record { text = IsUtf8-nil; table = refl }

-- no plays are spelled by no bytes
pub nothing_spelled : (plays : List Play) → length plays ≡ 0 → Spells plays []
nothing_spelled [] none = nothing_written
nothing_spelled (play ∷ rest) none = absurd (omega (arith, none))
