-- Which plays the logs of a game can write, and the first play that they cannot.
use Rattle.std.specs.Prelude.{Option, None}
use Rattle.hand_canon.specs.declared.notes.Notes.{Notes}
use Rattle.hand_canon.specs.declared.trace.Play.{Play}
use Rattle.hand_canon.specs.declared.writing.Keep.{Keep}
use Rattle.hand_canon.specs.declared.writing.Keep.TheVariants as keeps
use Rattle.hand_canon.specs.declared.writing.Unspelled.{Unspelled}
use Rattle.acpc_game.specs.declared.game.Game.{Game}
use Rattle.acpc_format.specs.NoteFacts.{text_conditions, time_conditions}
use Rattle.acpc_format.specs.PlayFacts.{play_conditions}
use Rattle.acpc_format.specs.SetupFacts.{setup_conditions}
use Rattle.hand_canon.specs.WriteRefusals.{or_behind}
use Rattle.first_fault.specs.Conditions.{first_where}

-- the first note that a line cannot write, if all notes are to be kept; if only those that can be
-- written are kept, there is none
unfoldable pub unspelled_note : Keep → Notes → Option Unspelled
unspelled_note keeps.All notes =
    or_behind (first_where (text_conditions notes)) (first_where (time_conditions notes))
unspelled_note keeps.Spelled notes = None

-- the first fact of a play that the logs of a game cannot write: of its setup, of its play, of its
-- notes
unfoldable pub unspelled : Game → Keep → Play → Option Unspelled
unspelled game keep play =
    or_behind (first_where (setup_conditions game play.trace.setup))
    (or_behind (first_where (play_conditions game play.trace))
    (unspelled_note keep play.hand.notes))
