-- The code of a game, as it is written.
use Rattle.std.specs.Prelude.{ℕ, List, codes}
use Rattle.play_event.specs.declared.code.Code.{Code}
use Rattle.play_event.specs.declared.code.Code.TheVariants as games

-- the letters of a game's code
abbrev pub code_text : Code → List ℕ
code_text games.FT = codes "FT"
code_text games.NT = codes "NT"
code_text games.NS = codes "NS"
code_text games.PO = codes "PO"
code_text games.FO8 = codes "FO/8"
code_text games.F7S = codes "F7S"
code_text games.F7S8 = codes "F7S/8"
code_text games.FR = codes "FR"
code_text games.N2L1D = codes "N2L1D"
code_text games.F2L3D = codes "F2L3D"
code_text games.FB = codes "FB"
