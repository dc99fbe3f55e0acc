-- The games that the format can write, and the words that name them.
use Rattle.std.specs.Prelude.{ℕ, Bool, true, false, List, codes}
use Rattle.play_event.specs.declared.code.Code.{Code}
use Rattle.play_event.specs.declared.code.Code.TheVariants as games
use Rattle.play_event.specs.declared.limit.Limit.{Limit}
use Rattle.play_event.specs.declared.limit.Limit.TheVariants as limits
use Rattle.play_event.specs.Streets.{limit_of}

-- the format can write the game: hold'em in fixed limit and no limit, Omaha in pot limit, and Omaha
-- eight-or-better in fixed limit
abbrev pub is_spelled_game : Code → Bool
is_spelled_game games.FT = true
is_spelled_game games.NT = true
is_spelled_game games.PO = true
is_spelled_game games.FO8 = true
is_spelled_game _ = false

-- the word for the game; all games that can be written other than Omaha are hold'em
abbrev pub game_word : Code → List ℕ
game_word games.PO = codes "Omaha"
game_word games.FO8 = codes "OmahaHiLo"
game_word _ = codes "Holdem"

-- the word for a limit
abbrev pub limit_word : Limit → List ℕ
limit_word limits.Fixed = codes "FL"
limit_word limits.No = codes "NL"
limit_word limits.Pot = codes "PL"

-- the word for the limit of the game
abbrev pub bet_word : Code → List ℕ
bet_word code = limit_word (limit_of code)
