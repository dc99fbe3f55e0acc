-- The game of a hand, by its type and its limit.
use Rattle.std.specs.Prelude.{◌≡◌, false, ◌&&◌, bytes_eq, if◌then◌else◌, List, ℕ, codes, Option, Some, None, Result}
use Rattle.serde_json.specs.Data.{Data}
use Rattle.play_event.specs.declared.code.Code.{Code}
use Rattle.play_event.specs.declared.code.Code.TheVariants as games
use Rattle.play_event.specs.Games.{game_of}
use Rattle.play_event.specs.Streets.{is_stud_game}
use Rattle.first_fault.specs.Reading.{◌>>=◌}
use Rattle.ohh_members.specs.declared.fault.MemberFaultKind.TheVariants as whats
use Rattle.ohh_members.specs.declared.fault.Path.{Path}
use Rattle.ohh_members.specs.declared.fault.Path.TheVariants as paths
use Rattle.ohh_members.specs.declared.fault.MemberFault.{MemberFault}
use Rattle.ohh_members.specs.Values.{or_wrong, required_value, text_said, object_said}

-- the four supported games: a type and a limit
abbrev pub game_named : List ℕ → List ℕ → Option Code
game_named game limit =
    if bytes_eq game (codes "Holdem") && bytes_eq limit (codes "FL") then Some games.FT
    else if bytes_eq game (codes "Holdem") && bytes_eq limit (codes "NL") then Some games.NT
    else if bytes_eq game (codes "Omaha") && bytes_eq limit (codes "PL") then Some games.PO
    else if bytes_eq game (codes "OmahaHiLo") && bytes_eq limit (codes "FL") then Some games.FO8
    else None

-- a supported game is played by up to ten seats, and has blinds
pub record IsReadGame (code : Code) : Type 0 where
  pub seats : (game_of code).seats ≡ 10
  pub blinds : is_stud_game code ≡ false

-- the text of a required member
abbrev pub word_said : Path → Data → Result (List ℕ) MemberFault
word_said path value = required_value path value >>= text_said path

-- the object with the limit
abbrev pub limits_said : Data → Result Data MemberFault
limits_said ohh = required_value paths.BetLimit ohh >>= object_said paths.BetLimit

-- the game
unfoldable pub game_said : Data → Result Code MemberFault
game_said ohh = do
  game ← word_said paths.GameType ohh
  limits ← limits_said ohh
  limit ← word_said paths.BetType limits
  or_wrong whats.UnsupportedGame paths.GameType (game_named game limit)
