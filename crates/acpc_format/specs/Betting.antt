-- The betting of a line: a letter for each move, and a stroke before each further round that was
-- dealt.
use Rattle.std.specs.Prelude.{ℕ, Bool, ◌==◌, if◌then◌else◌, List, [], ◌∷◌, ◌++◌, decimal}
use Rattle.std.specs.List.{flat_map}
use Rattle.play_event.specs.declared.setup.Setup.{Setup}
use Rattle.play_event.specs.Chips.{chips_put}
use Rattle.play_event.specs.Past.{Act, BroughtIn, Called, Folded, Move, Raised}
use Rattle.play_event.specs.Trace.{TracedPlace}
use Rattle.acpc_format.specs.Rounds.{behind_stroke, further_streets}

-- the chips that a seat has put in the whole hand after it has made a move
abbrev pub hand_total : Setup → Move → List Move → ℕ
hand_total setup move before = chips_put setup (move ∷ before) move.seat

-- The letter of a move: f for a fold, c for a check or call, r for a bet or raise. In a no-limit
-- game the chips that the seat has put in the whole hand follow the r. A bring-in, which these
-- games do not have, has no letter.
abbrev pub letter : Bool → Act → ℕ → List ℕ
letter no_limit Folded total = 102 ∷ []
letter no_limit Called total = 99 ∷ []
letter no_limit Raised total = if no_limit then 114 ∷ decimal total else 114 ∷ []
letter no_limit BroughtIn total = []

-- the letter of a move, if the move is on this street
abbrev pub letter_on : Bool → ℕ → Move → ℕ → List ℕ
letter_on no_limit street move total =
    if move.street == street then letter no_limit move.act total else []

-- the letters of a street; the moves of the hand are given newest first
unfoldable pub letters_on : Bool → Setup → ℕ → List Move → List ℕ
letters_on no_limit setup street [] = []
letters_on no_limit setup street (move ∷ before) =
    letters_on no_limit setup street before
    ++ letter_on no_limit street move (hand_total setup move before)

-- the betting of a further round
unfoldable pub round_text : Bool → Setup → List TracedPlace → List Move → ℕ → List ℕ
round_text no_limit setup placed moves street =
    behind_stroke placed street (letters_on no_limit setup street moves)

-- the betting of a hand
unfoldable pub betting_text : Bool → Setup → List TracedPlace → List Move → List ℕ
betting_text no_limit setup placed moves =
    letters_on no_limit setup 1 moves
    ++ flat_map (round_text no_limit setup placed moves) further_streets
