-- The summary of made hands: how many hands, moves and chips in pots there are, and how many hands
-- each format can express.
use Rattle.std.specs.Prelude.{◌≡◌, ℕ, ◌++◌, List, [], ◌∷◌, length, codes, sum_by, All, Option, Some, None, Ok, Err}
use Rattle.std.specs.Fmt.{decimal}
use Rattle.std.specs.List.{AllZip}
use Rattle.acpc_game.specs.declared.game.Game.{Game}
use Rattle.acpc_game.specs.GameView.{game_in}
use Rattle.acpc_format.specs.GameOf.{game_for}
use Rattle.acpc_format.specs.Line.{log_text}
use Rattle.acpc_format.specs.Spelled as logs
use Rattle.hand_canon.specs.Agreement.{pot_total_of}
use Rattle.hand_canon.specs.Sound.{IsSound}
use Rattle.hand_canon.specs.declared.trace.Play.{Play}
use Rattle.hand_canon.specs.declared.writing.Keep.TheVariants as keeps
use Rattle.hand_canon.specs.declared.writing.Unspelled.{Unspelled}
use Rattle.ohh_writing.specs.Lines.{lines}
use Rattle.ohh_writing.specs.Spelled as ohh
use Rattle.ohh_members.specs.declared.dialect.Dialect.TheVariants as dialects
use Rattle.phh_format.specs.Spelled as phh
use Rattle.hand_gen.specs.declared.summary.PlayCounts.{PlayCounts}
use Rattle.hand_gen.specs.declared.summary.SpelledSize.{SpelledSize}
use Rattle.hand_gen.specs.declared.summary.Summary.{Summary}
use Rattle.hand_gen.specs.Made.{AreMadeFrom, number_behind_all}
use Rattle.hand_canon.specs.Plays.{hands_of}

-- 1 for a hand that a format can express, and otherwise 0
abbrev pub hands_spelled : Option Unspelled → ℕ
hands_spelled None = 1
hands_spelled (Some fact) = 0

-- the bytes of a hand that a format can express, and otherwise 0
abbrev pub bytes_spelled : Option Unspelled → ℕ → ℕ
bytes_spelled None bytes = bytes
bytes_spelled (Some fact) bytes = 0

-- whether a hand can be written, and in how many bytes, from its first fact that cannot be
-- expressed and the bytes that it would have
pub record IsSpelled (fact : Option Unspelled) (bytes : ℕ) (spelled : SpelledSize) : Type 0 where
  pub hands_are : spelled.hands ≡ hands_spelled fact
  pub bytes_are : spelled.bytes ≡ bytes_spelled fact bytes

-- the size of a play in Open Hand History, as a file of its own
abbrev pub IsInHistories : Play → SpelledSize → Type 0
IsInHistories play spelled =
    IsSpelled (ohh.unspelled keeps.All play) (length (lines dialects.Added (play ∷ []))) spelled

-- the size of a play in the logs of the game that it fits; a play that fits no game is in none
pub data IsInLogs (play : Play) (spelled : SpelledSize) : Type 0 where
  fits_none : (fact : Unspelled) → game_for play.trace.setup ≡ Err fact → spelled.hands ≡ 0
      → spelled.bytes ≡ 0
      → IsInLogs play spelled
  fits : (game : Game) → game_for play.trace.setup ≡ Ok (game_in game)
      → IsSpelled (logs.unspelled game keeps.All play) (length (log_text game.no_limit (play ∷ [])))
      spelled
      → IsInLogs play spelled

-- the numbers of a play: its moves, its pots, and its size in each format
pub record AreCountsOf (play : Play) (counts : PlayCounts) : Type 0 where
  pub moves : counts.moves ≡ length play.trace.moves
  pub pots : counts.pots ≡ pot_total_of play.trace
  pub phh_hands : counts.phh ≡ hands_spelled (phh.unspelled play)
  pub histories : IsInHistories play counts.ohh
  pub in_logs : IsInLogs play counts.acpc

-- a summary adds up the numbers of plays
pub record IsSummaryOf (plays : List Play) (summary : Summary) : Type 0 where
  pub counts : List PlayCounts
  pub counted : AllZip AreCountsOf plays counts
  pub hands : summary.hands ≡ length plays
  pub moves : summary.moves ≡ sum_by (λ (c : PlayCounts). c.moves) counts
  pub pots : summary.pots ≡ sum_by (λ (c : PlayCounts). c.pots) counts
  pub phh : summary.phh ≡ sum_by (λ (c : PlayCounts). c.phh) counts
  pub ohh : summary.ohh ≡ sum_by (λ (c : PlayCounts). c.ohh.hands) counts
  pub ohh_bytes : summary.ohh_bytes ≡ sum_by (λ (c : PlayCounts). c.ohh.bytes) counts
  pub acpc : summary.acpc ≡ sum_by (λ (c : PlayCounts). c.acpc.hands) counts
  pub acpc_bytes : summary.acpc_bytes ≡ sum_by (λ (c : PlayCounts). c.acpc.bytes) counts

-- a summary is that of the made hands from a seed, up to the generator's number after them: each
-- has its play, and these are counted
pub record IsLoadTo (seed number : ℕ) (summary : Summary) : Type 0 where
  pub plays : List Play
  pub made : AreMadeFrom 0 seed (hands_of plays)
  pub number_is : number ≡ number_behind_all seed (hands_of plays)
  pub sound : All IsSound plays
  pub sums : IsSummaryOf plays summary

-- a summary is that of this number of made hands from a seed
pub record IsLoad (seed count : ℕ) (summary : Summary) : Type 0 where
  pub plays : List Play
  pub made : AreMadeFrom 0 seed (hands_of plays)
  pub counted : length plays ≡ count
  pub sound : All IsSound plays
  pub sums : IsSummaryOf plays summary

-- the lines of hands, moves and pots, and of the hands that the Poker Hand History format can
-- express
abbrev pub played_text : Summary → List ℕ
played_text summary =
    codes "hands " ++ (decimal summary.hands
    ++ (codes "\nmoves " ++ (decimal summary.moves
    ++ (codes "\npots " ++ (decimal summary.pots
    ++ (codes "\nphh " ++ decimal summary.phh))))))

-- the lines of what Open Hand History and the logs of the competition can express: hands and bytes
abbrev pub spelled_text : Summary → List ℕ
spelled_text summary =
    codes "\nohh " ++ (decimal summary.ohh
    ++ (codes " " ++ (decimal summary.ohh_bytes
    ++ (codes "\nacpc " ++ (decimal summary.acpc
    ++ (codes " " ++ (decimal summary.acpc_bytes
    ++ codes "\n")))))))

-- the six lines of a summary
abbrev pub summary_text : Summary → List ℕ
summary_text summary = played_text summary ++ spelled_text summary
