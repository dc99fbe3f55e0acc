-- What is read from plays: their records, and how many moves are written for one.
use Rattle.std.specs.Prelude.{ℕ, List, length, map}
use Rattle.hand_canon.specs.TraceRows.{core_said}
use Rattle.hand_canon.specs.declared.record.Record.{Record}
use Rattle.hand_canon.specs.declared.trace.Play.{Play}

-- the records of plays
abbrev pub hands_of : List Play → List Record
hands_of plays = map (λ (play : Play). play.hand) plays

-- how many moves the trace of a play has
abbrev pub moves_written : Play → ℕ
moves_written play = length (core_said play.trace).moves
