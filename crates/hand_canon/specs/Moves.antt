-- How many moves a hand has.
use Rattle.std.specs.Prelude.{count_by, ℕ}
use Rattle.play_event.specs.PlayedScript.{is_move_event}
use Rattle.hand_canon.specs.SoundRecord.{script_said}
use Rattle.hand_canon.specs.declared.record.Record.{Record}
use Rattle.hand_canon.specs.declared.trace.Play.{Play}

-- the moves of a hand
abbrev pub moves_of : Record → ℕ
moves_of hand = count_by is_move_event (script_said hand)

-- the moves of a play
abbrev pub moves_played : Play → ℕ
moves_played play = moves_of play.hand
