-- The line of a play: STATE, the number of the hand, the betting, the cards, the values and the
-- names, separated by colons and ended by a newline. A log is the lines of its plays, one after the
-- other.
use Rattle.std.specs.Prelude.{ℕ, ◌+◌, Bool, List, [], ◌∷◌, ◌++◌, codes, Option}
use Rattle.play_event.specs.CanonScript.{plain_moves}
use Rattle.hand_canon.specs.TraceRows.{core_said}
use Rattle.hand_canon.specs.declared.notes.Notes.{Notes}
use Rattle.hand_canon.specs.declared.trace.Play.{Play}
use Rattle.hand_canon.specs.declared.trace.Trace.{Trace}
use Rattle.acpc_format.specs.Betting.{betting_text}
use Rattle.acpc_format.specs.Cards.{cards_text}
use Rattle.acpc_format.specs.Values.{values_text}
use Rattle.acpc_format.specs.Names.{hand_text, names_text}

-- STATE and the number of the hand at a place of its file, from 0
unfoldable pub head_text : ℕ → Option (List ℕ) → List ℕ
head_text place hand = codes "STATE:" ++ hand_text place hand

-- the betting and the cards of a trace
unfoldable pub play_text : Bool → Trace → List ℕ
play_text no_limit trace =
    betting_text no_limit trace.setup (core_said trace).places (plain_moves (core_said trace).moves)
    ++ 58 ∷ cards_text (core_said trace).places trace.setup.stacks.seats

-- the values and the names
unfoldable pub end_text : Trace → Notes → List ℕ
end_text trace notes =
    values_text trace.setup.stacks trace.finish ++ 58 ∷ names_text notes trace.setup.stacks.seats

-- the line of the play at a place of its file, from 0
unfoldable pub line_text : Bool → ℕ → Play → List ℕ
line_text no_limit place play =
    head_text place play.hand.notes.hand
    ++ 58 ∷ (play_text no_limit play.trace ++ 58 ∷ (end_text play.trace play.hand.notes ++ 10 ∷ []))

-- the lines of plays, the first of which is at this place
abbrev pub lines_from : Bool → ℕ → List Play → List ℕ
lines_from no_limit place [] = []
lines_from no_limit place (play ∷ rest) =
    line_text no_limit place play ++ lines_from no_limit (place + 1) rest

-- the log of plays
abbrev pub log_text : Bool → List Play → List ℕ
log_text no_limit plays = lines_from no_limit 0 plays
